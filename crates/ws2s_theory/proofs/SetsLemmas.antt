-- On sets of positions: none, or one position, by the root and the two halves.
use Rattle.std.proofs.Common.{◌≡◌, ◌≢◌, Bool, true, false, not, IsTrue, ◌↔◌, ◌⊎◌, inl, inr, [], ◌∷◌, length, drop, slice_index_or}
use Rattle.std.proofs.Common.{refl, sym, ap, subst, ◌∙◌, arith}
use Rattle.std.proofs.lemmas.Bool.{false≢true}
use Rattle.gta_theory.specs.Assignments.{Position, PositionSet, IsOnly}

-- both ways, put together
pub both : {P Q R : Type 0} → P ↔ Q → Q ↔ R → P ↔ R
both pq qr = ((λ h. qr.0 (pq.0 h)), (λ h. pq.1 (qr.1 h)))

pub back : {P Q : Type 0} → P ↔ Q → Q ↔ P
back pq = (pq.1, pq.0)

pub three : {P P' Q Q' R R' : Type 0} → P ↔ P' → Q ↔ Q' → R ↔ R' → (P × Q × R) ↔ (P' × Q' × R')
three p q r = ((λ h. (p.0 h.0, q.0 h.1, r.0 h.2)), (λ h. (p.1 h.0, q.1 h.1, r.1 h.2)))

pub either : {P P' Q Q' : Type 0} → P ↔ P' → Q ↔ Q' → (P ⊎ Q) ↔ (P' ⊎ Q')
either {P} {P'} {Q} {Q'} p q = (
  (λ h. elim h as (λ _. P' ⊎ Q') [ inl x ↦ inl (p.0 x) | inr x ↦ inr (q.0 x) ]),
  (λ h. elim h as (λ _. P ⊎ Q) [ inl x ↦ inl (p.1 x) | inr x ↦ inr (q.1 x) ]),
)

pub same : {P : Type 0} → P ↔ P
same = ((λ h. h), (λ h. h))

-- each position of the first is one of the second
abbrev pub IsInside : PositionSet → PositionSet → Type 0
IsInside first second = (p : Position) → IsTrue (first p) → IsTrue (second p)

pub not_so : (b : Bool) → (b ≡ true → ⊥) → b ≡ false
not_so true h = absurd (h refl)
not_so false h = refl

-- the set has no position
abbrev pub IsEmptySet : PositionSet → Type 0
IsEmptySet set = (p : Position) → set p ≡ false

-- the positions below a letter
abbrev pub below : Bool → PositionSet → PositionSet
below letter set = λ p. set (letter ∷ p)

cons≢nil : (b : Bool) (p : Position) → (b ∷ p) ≢ []
cons≢nil b p e = absurd (omega (arith, ap length e))

pub head-same : (b c : Bool) (p q : Position) → (b ∷ p) ≡ (c ∷ q) → b ≡ c
head-same b c p q e = ap (λ r. slice_index_or r 0 b) e

pub tail-same : (b c : Bool) (p q : Position) → (b ∷ p) ≡ (c ∷ q) → p ≡ q
tail-same b c p q e = ap (drop 1) e

differ : (b : Bool) → b ≢ not b
differ true e = false≢true (sym e)
differ false e = false≢true e

-- a letter is this one or the other one
letters : (b c : Bool) → (c ≡ b) ⊎ (c ≡ not b)
letters true true = inl refl
letters true false = inr refl
letters false true = inr refl
letters false false = inl refl

pub empty-halves : (set : PositionSet) → IsEmptySet set ↔ (IsEmptySet (below false set) × IsEmptySet (below true set) × (set [] ≡ false))
empty-halves set = (
  (λ empty. ((λ p. empty (false ∷ p)), (λ p. empty (true ∷ p)), empty [])),
  (λ h p. join h p),
)
  where
    join : IsEmptySet (below false set) × IsEmptySet (below true set) × (set [] ≡ false) → (p : Position) → set p ≡ false
    join h [] = h.2
    join h (false ∷ p) = h.0 p
    join h (true ∷ p) = h.1 p

pub inside-halves : (first second : PositionSet) → IsInside first second
    ↔ (IsInside (below false first) (below false second) × IsInside (below true first) (below true second)
    × (first [] ≡ true → second [] ≡ true))
inside-halves first second = (
  (λ h. ((λ p. h (false ∷ p)), (λ p. h (true ∷ p)), h [])),
  (λ h p. join h p),
)
  where
    join : IsInside (below false first) (below false second) × IsInside (below true first) (below true second)
        × (first [] ≡ true → second [] ≡ true) → (p : Position) → IsTrue (first p) → IsTrue (second p)
    join h [] = h.2
    join h (false ∷ p) = h.0 p
    join h (true ∷ p) = h.1 p

pub root-halves : (set : PositionSet) → IsOnly set [] ↔ (IsEmptySet (below false set) × IsEmptySet (below true set) × (set [] ≡ true))
root-halves set = (
  (λ only. (
    (λ p. not_so (set (false ∷ p)) (λ is. cons≢nil false p ((only (false ∷ p)).0 is))),
    (λ p. not_so (set (true ∷ p)) (λ is. cons≢nil true p ((only (true ∷ p)).0 is))),
    (only []).1 refl,
  )),
  (λ h p. join h p),
)
  where
    join : IsEmptySet (below false set) × IsEmptySet (below true set) × (set [] ≡ true) → (p : Position) → IsTrue (set p) ↔ (p ≡ [])
    join h [] = ((λ is. refl), (λ e. h.2))
    join h (false ∷ p) = ((λ is. absurd (false≢true (sym (h.0 p) ∙ is))), (λ e. absurd (cons≢nil false p e)))
    join h (true ∷ p) = ((λ is. absurd (false≢true (sym (h.1 p) ∙ is))), (λ e. absurd (cons≢nil true p e)))

-- one position below a letter: one in that half, none in the other, and not the root
pub only-below : (letter : Bool) (u : Position) (set : PositionSet) →
    IsOnly set (letter ∷ u) ↔ (IsOnly (below letter set) u × IsEmptySet (below (not letter) set) × (set [] ≡ false))
only-below letter u set = (
  (λ only. (
    (λ p. ((λ is. tail-same letter letter p u ((only (letter ∷ p)).0 is)), (λ e. (only (letter ∷ p)).1 (ap (λ q. letter ∷ q) e)))),
    (λ p. not_so (set (not letter ∷ p)) (λ is.
        differ letter (sym (head-same (not letter) letter p u ((only (not letter ∷ p)).0 is))))),
    not_so (set []) (λ is. cons≢nil letter u (sym ((only []).0 is))),
  )),
  (λ h p. join h p),
)
  where
    join : IsOnly (below letter set) u × IsEmptySet (below (not letter) set) × (set [] ≡ false) → (p : Position) →
        IsTrue (set p) ↔ (p ≡ letter ∷ u)
    join h [] = ((λ is. absurd (false≢true (sym h.2 ∙ is))), (λ e. absurd (cons≢nil letter u (sym e))))
    join h (c ∷ p) = elim (letters letter c) as (λ _. IsTrue (set (c ∷ p)) ↔ ((c ∷ p) ≡ (letter ∷ u))) [
      | inl this ↦ (
        (λ is. λ i. this i ∷ (h.0 p).0 (subst (λ b. IsTrue (set (b ∷ p))) this is) i),
        (λ e. subst (λ b. IsTrue (set (b ∷ p))) (sym this) ((h.0 p).1 (tail-same c letter p u e))),
      )
      | inr that ↦ (
        (λ is. absurd (false≢true (sym (h.1 p) ∙ subst (λ b. IsTrue (set (b ∷ p))) that is))),
        (λ e. absurd (differ letter (sym (head-same c letter p u e) ∙ that))),
      )
    ]

-- the set has one position
abbrev pub HasOne : PositionSet → Type 0
HasOne set = (u : Position) × IsOnly set u

pub one-halves : (set : PositionSet) → HasOne set ↔ ((IsEmptySet (below false set) × IsEmptySet (below true set) × (set [] ≡ true))
    ⊎ ((HasOne (below false set) × IsEmptySet (below true set) × (set [] ≡ false))
    ⊎ (IsEmptySet (below false set) × HasOne (below true set) × (set [] ≡ false))))
one-halves set = (
  (λ h. there h.0 h.1),
  (λ h. elim h as (λ _. HasOne set) [
    | inl root ↦ ([], (root-halves set).1 root)
    | inr rest ↦ elim rest as (λ _. HasOne set) [
      | inl l ↦ (false ∷ (l.0).0, (only-below false (l.0).0 set).1 ((l.0).1, l.1, l.2))
      | inr r ↦ (true ∷ (r.1).0, (only-below true (r.1).0 set).1 ((r.1).1, r.0, r.2))
    ]
  ]),
)
  where
    there : (u : Position) → IsOnly set u → (IsEmptySet (below false set) × IsEmptySet (below true set) × (set [] ≡ true))
        ⊎ ((HasOne (below false set) × IsEmptySet (below true set) × (set [] ≡ false))
        ⊎ (IsEmptySet (below false set) × HasOne (below true set) × (set [] ≡ false)))
    there [] only = inl ((root-halves set).0 only)
    there (false ∷ u) only = let h = (only-below false u set).0 only in inr (inl ((u, h.0), h.1, h.2))
    there (true ∷ u) only = let h = (only-below true u set).0 only in inr (inr (h.1, (u, h.0), h.2))
