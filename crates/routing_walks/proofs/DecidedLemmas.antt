-- What is decided of parts is decided of the whole.
use Rattle.std.proofs.Common.{◌≡◌, ◌⊎◌, inl, inr, ◌<◌, ℕ, zero, suc, Bool, true, false, List, [], ◌∷◌, slice_get, Option, Some, None, IsSome}
use Rattle.std.proofs.Common.{IsSomeAnd, IfSome, refl, sym, ap, ◌∙◌, subst, arith, Contains}
use Rattle.std.proofs.lemmas.Bool.{cases_eq, cases_lt, false≢true}
use Rattle.std.proofs.lemmas.Option.{slice_get-get_or, slice_get_within, get_or_from_slice_get}
use Rattle.routing_walks.specs.Deciding.{Decided}

-- what means the same is decided too
pub decided_as : {P Q : Type 0} → (P → Q) → (Q → P) → Decided P → Decided Q
decided_as forth back (inl h) = inl (forth h)
decided_as forth back (inr never) = inr (λ q. never (back q))

pub decided_both : {P Q : Type 0} → Decided P → Decided Q → Decided (P × Q)
decided_both (inl p) (inl q) = inl (p, q)
decided_both (inl p) (inr never) = inr (λ h. never h.1)
decided_both (inr never) other = inr (λ h. never h.0)

pub decided_either : {P Q : Type 0} → Decided P → Decided Q → Decided (P ⊎ Q)
decided_either (inl p) other = inl (inl p)
decided_either (inr never) (inl q) = inl (inr q)
decided_either (inr never) (inr neither) = inr (λ h. elim h [ inl p ↦ never p | inr q ↦ neither q ])

pub decided_not : {P : Type 0} → Decided P → Decided (P → ⊥)
decided_not (inl p) = inr (λ never. never p)
decided_not (inr never) = inl never

-- what is not refuted holds
pub holds_from : {P : Type 0} → Decided P → ((P → ⊥) → ⊥) → P
holds_from (inl p) h = p
holds_from (inr never) h = absurd (h never)

pub decided_number : (a b : ℕ) → Decided (a ≡ b)
decided_number a b = cases_eq a b

pub decided_truth : (a b : Bool) → Decided (a ≡ b)
decided_truth true true = inl refl
decided_truth true false = inr (λ e. false≢true (sym e))
decided_truth false true = inr (λ e. false≢true e)
decided_truth false false = inl refl

pub decided_name : (xs ys : List ℕ) → Decided (xs ≡ ys)
decided_name [] [] = inl refl
decided_name [] (y ∷ ys) = inr (λ e. cc)
decided_name (x ∷ xs) [] = inr (λ e. cc)
decided_name (x ∷ xs) (y ∷ ys) = joined (cases_eq x y) (decided_name xs ys)
  where
    joined : Decided (x ≡ y) → Decided (xs ≡ ys) → Decided (x ∷ xs ≡ y ∷ ys)
    joined (inl same) (inl rest) = inl (cc)
    joined (inl same) (inr apart) = inr (λ e. apart (cc))
    joined (inr apart) rest = inr (λ e. apart (cc))

pub decided_some : {X : Type 0} (o : Option X) (P : X → Type 0) → ((x : X) → Decided (P x)) → Decided (IsSomeAnd o P)
decided_some None P each = inr (λ h. h)
decided_some (Some x) P each = each x

pub decided_if : {X : Type 0} (o : Option X) (P : X → Type 0) → ((x : X) → Decided (P x)) → Decided (IfSome o P)
decided_if None P each = inl tt
decided_if (Some x) P each = each x

pub decided_there : {X : Type 0} (o : Option X) → Decided (IsSome o)
decided_there None = inr (λ h. false≢true h)
decided_there (Some x) = inl refl

-- ---- members of lists

pub in_none : {X : Type 0} (x : X) → Contains [] x → ⊥
in_none x h = omega (arith, h.1)

pub in_first : {X : Type 0} (x : X) (xs : List X) → Contains (x ∷ xs) x
in_first x xs = (0, omega arith, refl)

pub in_rest : {X : Type 0} (x y : X) (xs : List X) → Contains xs y → Contains (x ∷ xs) y
in_rest x y xs h = (suc h.0, omega (arith, h.1), h.2)

pub in_cases : {X : Type 0} (x y : X) (xs : List X) → Contains (x ∷ xs) y → (x ≡ y) ⊎ Contains xs y
in_cases x y xs (zero, within, is) = inl is
in_cases x y xs (suc k, within, is) = inr (k, omega (arith, within), is)

pub in_at : {X : Type 0} (xs : List X) (k : ℕ) (x : X) → slice_get xs k ≡ Some x → Contains xs x
in_at xs k x at = (k, slice_get_within xs k x at, get_or_from_slice_get xs k x x at)

pub at_in : {X : Type 0} (xs : List X) (x : X) → Contains xs x → (k : ℕ) × (slice_get xs k ≡ Some x)
at_in xs x h = (h.0, slice_get-get_or xs h.0 x h.1 ∙ ap (λ y. Some y) h.2)

pub decided_in : {X : Type 0} → ((x y : X) → Decided (x ≡ y)) → (xs : List X) (y : X) → Decided (Contains xs y)
decided_in same [] y = inr (in_none y)
decided_in same (x ∷ xs) y = decided_as (λ h. elim h [ inl e ↦ (0, omega arith, e) | inr m ↦ in_rest x y xs m ]) (in_cases x y xs)
    (decided_either (same x y) (decided_in same xs y))

-- one of a list
pub decided_one_of : {X : Type 0} (P : X → Type 0) → ((x : X) → Decided (P x)) → (xs : List X) → Decided ((x : X) × Contains xs x × P x)
decided_one_of P each [] = inr (λ h. in_none h.0 h.1)
decided_one_of {X = X} P each (x ∷ xs) = joined (each x) (decided_one_of P each xs)
  where
    joined : Decided (P x) → Decided ((y : X) × Contains xs y × P y) → Decided ((y : X) × Contains (x ∷ xs) y × P y)
    joined (inl h) rest = inl (x, in_first x xs, h)
    joined (inr never) (inl h) = inl (h.0, in_rest x h.0 xs h.1, h.2)
    joined (inr never) (inr none) = inr (λ h. elim (in_cases x h.0 xs h.1) [
      | inl e ↦ never (subst P (sym e) h.2)
      | inr m ↦ none (h.0, m, h.2)
    ])

-- one of the first numbers
pub decided_below : (P : ℕ → Type 0) → ((k : ℕ) → Decided (P k)) → (n : ℕ) → Decided ((k : ℕ) × (k < n) × P k)
decided_below P each zero = inr (λ h. omega (arith, h.1))
decided_below P each (suc n) = joined (each n) (decided_below P each n)
  where
    joined : Decided (P n) → Decided ((k : ℕ) × (k < n) × P k) → Decided ((k : ℕ) × (k < suc n) × P k)
    joined (inl h) rest = inl (n, omega arith, h)
    joined (inr never) (inl h) = inl (h.0, omega (arith, h.1), h.2)
    joined (inr never) (inr none) = inr (λ h. elim (cases_lt h.0 n) [
      | inl less ↦ none (h.0, less, h.2)
      | inr more ↦ let last : h.0 ≡ n = omega (arith, h.1) in never (subst P last h.2)
    ])
