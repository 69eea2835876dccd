-- Facts that hold together.
use Rattle.std.proofs.Common.{◌↔◌, ◌⊎◌, inl, inr, Bool, true, false, Option, Some, None, IsSomeAnd}
use Rattle.std.specs.Prelude.{MatchBool}

-- from one pair of facts to another
pub both : {A B C D : Type 0} → A ↔ B → B ↔ C → D ↔ C → A ↔ D
both ab bc dc = (λ a. dc.1 (bc.0 (ab.0 a)), λ d. ab.1 (bc.1 (dc.0 d)))

pub itself : {A : Type 0} → A ↔ A
itself = (λ a. a, λ a. a)

pub turned : {A B : Type 0} → A ↔ B → B ↔ A
turned h = (h.1, h.0)

pub not-both : {A B : Type 0} → A ↔ B → (A → ⊥) ↔ (B → ⊥)
not-both h = (λ no b. no (h.1 b), λ no a. no (h.0 a))

pub and-both : {A B C D : Type 0} → A ↔ B → C ↔ D → (A × C) ↔ (B × D)
and-both h k = (λ p. (h.0 p.0, k.0 p.1), λ p. (h.1 p.0, k.1 p.1))

pub or-both : {A B C D : Type 0} → A ↔ B → C ↔ D → (A ⊎ C) ↔ (B ⊎ D)
or-both {A} {B} {C} {D} h k = (forth, back)
  where
    forth : A ⊎ C → B ⊎ D
    forth (inl a) = inl (h.0 a)
    forth (inr c) = inr (k.0 c)

    back : B ⊎ D → A ⊎ C
    back (inl b) = inl (h.1 b)
    back (inr d) = inr (k.1 d)

pub then-both : {A B C D : Type 0} → A ↔ B → C ↔ D → (A → C) ↔ (B → D)
then-both h k = (λ f b. k.0 (f (h.1 b)), λ f a. k.1 (f (h.0 a)))

pub iff-both : {A B C D : Type 0} → A ↔ B → C ↔ D → (A ↔ C) ↔ (B ↔ D)
iff-both h k = (
  λ p. ((λ b. k.0 (p.0 (h.1 b))), (λ d. h.0 (p.1 (k.1 d)))),
  λ p. ((λ a. k.1 (p.0 (h.0 a))), (λ c. h.1 (p.1 (k.0 c)))),
)

-- for some x, and for all x
pub some-both : {X : Type 0} {P Q A B : X → Type 0} → ((x : X) → P x ↔ Q x) → ((x : X) → A x ↔ B x) →
    ((x : X) × P x × A x) ↔ ((x : X) × Q x × B x)
some-both h k = (λ p. (p.0, (h p.0).0 p.1, (k p.0).0 p.2), λ p. (p.0, (h p.0).1 p.1, (k p.0).1 p.2))

pub all-both : {X : Type 0} {P Q A B : X → Type 0} → ((x : X) → P x ↔ Q x) → ((x : X) → A x ↔ B x) →
    ((x : X) → P x → A x) ↔ ((x : X) → Q x → B x)
all-both h k = (λ f x q. (k x).0 (f x ((h x).1 q)), λ f x p. (k x).1 (f x ((h x).0 p)))

pub IsSomeAnd-both : {X : Type 0} (o : Option X) {P Q : X → Type 0} → ((x : X) → P x ↔ Q x) → IsSomeAnd o P ↔ IsSomeAnd o Q
IsSomeAnd-both None h = itself
IsSomeAnd-both (Some x) h = h x

pub MatchBool-both : (b : Bool) {A B C D : Type 0} → A ↔ B → C ↔ D → MatchBool b A C ↔ MatchBool b B D
MatchBool-both true h k = h
MatchBool-both false h k = k
