-- On two sets, of which the first is one position and the second its child, by the roots and the halves.
use Rattle.std.proofs.Common.{◌≡◌, Bool, true, false, not, ◌↔◌, ◌⊎◌, inl, inr, [], ◌∷◌, ◌++◌}
use Rattle.gta_theory.specs.Assignments.{Position, PositionSet, IsOnly}
use Rattle.ws2s_theory.specs.Atoms.{SuccState, neither, child, found, succ_step}
use Rattle.ws2s_theory.proofs.SetsLemmas.{IsEmptySet, below, empty-halves, root-halves, only-below, both, back}
use Rattle.ws2s_theory.proofs.TablesLemmas.{succ-neither, succ-child, succ-found}

-- the halves in the order that a letter says
sides : {P Q R : Type 0} → (P × Q × R) ↔ (Q × P × R)
sides = ((λ h. (h.1, h.0, h.2)), (λ h. (h.1, h.0, h.2)))

empty-sides : (letter : Bool) (set : PositionSet) →
    IsEmptySet set ↔ (IsEmptySet (below letter set) × IsEmptySet (below (not letter) set) × (set [] ≡ false))
empty-sides false set = empty-halves set
empty-sides true set = both (empty-halves set) sides

root-sides : (letter : Bool) (set : PositionSet) →
    IsOnly set [] ↔ (IsEmptySet (below letter set) × IsEmptySet (below (not letter) set) × (set [] ≡ true))
root-sides false set = root-halves set
root-sides true set = both (root-halves set) sides

-- both sets have nothing
abbrev pub Neither : PositionSet → PositionSet → Type 0
Neither first second = IsEmptySet first × IsEmptySet second

-- the first has nothing and the second the root alone
abbrev pub IsChild : PositionSet → PositionSet → Type 0
IsChild first second = IsEmptySet first × IsOnly second []

-- the first has one position, and the second its child by the letter
abbrev pub IsPair : Bool → PositionSet → PositionSet → Type 0
IsPair letter first second = (u : Position) × IsOnly first u × IsOnly second (u ++ letter ∷ [])

module _ (letter : Bool) (first second : PositionSet) where
  abbrev l : PositionSet → PositionSet
  l set = below letter set

  abbrev r : PositionSet → PositionSet
  r set = below (not letter) set

  neither-sides : Neither first second ↔ (Neither (l first) (l second) × Neither (r first) (r second) × (first [] ≡ false) × (second [] ≡ false))
  neither-sides =
      let x = empty-sides letter first in
      let y = empty-sides letter second in (
        (λ h. let u = x.0 h.0 in let v = y.0 h.1 in ((u.0, v.0), (u.1, v.1), u.2, v.2)),
        (λ h. (x.1 ((h.0).0, (h.1).0, h.2), y.1 ((h.0).1, (h.1).1, h.3))),
      )

  child-sides : IsChild first second ↔ (Neither (l first) (l second) × Neither (r first) (r second) × (first [] ≡ false) × (second [] ≡ true))
  child-sides =
      let x = empty-sides letter first in
      let y = root-sides letter second in (
        (λ h. let u = x.0 h.0 in let v = y.0 h.1 in ((u.0, v.0), (u.1, v.1), u.2, v.2)),
        (λ h. (x.1 ((h.0).0, (h.1).0, h.2), y.1 ((h.0).1, (h.1).1, h.3))),
      )

-- the pair stands at the root and below it, or in one half
abbrev PairRows : Bool → PositionSet → PositionSet → Type 0
PairRows letter first second =
    (IsChild (below letter first) (below letter second) × Neither (below (not letter) first) (below (not letter) second)
    × (first [] ≡ true) × (second [] ≡ false))
    ⊎ ((IsPair letter (below letter first) (below letter second) × Neither (below (not letter) first) (below (not letter) second)
    × (first [] ≡ false) × (second [] ≡ false))
    ⊎ (Neither (below letter first) (below letter second) × IsPair letter (below (not letter) first) (below (not letter) second)
    × (first [] ≡ false) × (second [] ≡ false)))

pair-there : (letter : Bool) (first second : PositionSet) (u : Position) → IsOnly first u → IsOnly second (u ++ letter ∷ []) →
    PairRows letter first second
pair-there letter first second [] in_first in_second =
    let x = (root-sides letter first).0 in_first in
    let y = (only-below letter [] second).0 in_second in
    inl ((x.0, y.0), (x.1, y.1), x.2, y.2)
pair-there true first second (true ∷ u) in_first in_second =
    let x = (only-below true u first).0 in_first in
    let y = (only-below true (u ++ true ∷ []) second).0 in_second in
    inr (inl ((u, x.0, y.0), (x.1, y.1), x.2, y.2))
pair-there false first second (false ∷ u) in_first in_second =
    let x = (only-below false u first).0 in_first in
    let y = (only-below false (u ++ false ∷ []) second).0 in_second in
    inr (inl ((u, x.0, y.0), (x.1, y.1), x.2, y.2))
pair-there true first second (false ∷ u) in_first in_second =
    let x = (only-below false u first).0 in_first in
    let y = (only-below false (u ++ true ∷ []) second).0 in_second in
    inr (inr ((x.1, y.1), (u, x.0, y.0), x.2, y.2))
pair-there false first second (true ∷ u) in_first in_second =
    let x = (only-below true u first).0 in_first in
    let y = (only-below true (u ++ false ∷ []) second).0 in_second in
    inr (inr ((x.1, y.1), (u, x.0, y.0), x.2, y.2))

pair-aside : (letter : Bool) (first second : PositionSet) → Neither (below letter first) (below letter second) →
    IsPair letter (below (not letter) first) (below (not letter) second) → first [] ≡ false → second [] ≡ false →
    IsPair letter first second
pair-aside true first second empty pair of_first of_second = (
  false ∷ pair.0,
  (only-below false pair.0 first).1 (pair.1, empty.0, of_first),
  (only-below false (pair.0 ++ true ∷ []) second).1 (pair.2, empty.1, of_second),
)
pair-aside false first second empty pair of_first of_second = (
  true ∷ pair.0,
  (only-below true pair.0 first).1 (pair.1, empty.0, of_first),
  (only-below true (pair.0 ++ false ∷ []) second).1 (pair.2, empty.1, of_second),
)

pair-sides : (letter : Bool) (first second : PositionSet) → IsPair letter first second ↔ PairRows letter first second
pair-sides letter first second = (
  (λ h. pair-there letter first second h.0 h.1 h.2),
  (λ h. elim h as (λ _. IsPair letter first second) [
    | inl top ↦ (
      [],
      (root-sides letter first).1 ((top.0).0, (top.1).0, top.2),
      (only-below letter [] second).1 ((top.0).1, (top.1).1, top.3),
    )
    | inr rest ↦ elim rest as (λ _. IsPair letter first second) [
      | inl toward ↦ (
        letter ∷ (toward.0).0,
        (only-below letter (toward.0).0 first).1 ((toward.0).1, (toward.1).0, toward.2),
        (only-below letter ((toward.0).0 ++ letter ∷ []) second).1 ((toward.0).2, (toward.1).1, toward.3),
      )
      | inr aside ↦ pair-aside letter first second aside.0 aside.1 aside.2 aside.3
    ]
  ]),
)

-- what each state says of two sets
pub record Says (letter : Bool) (q : SuccState) (first second : PositionSet) : Type 0 where
  pub says_neither : (q ≡ neither) ↔ Neither first second
  pub says_child : (q ≡ child) ↔ IsChild first second
  pub says_found : (q ≡ found) ↔ IsPair letter first second

four : {P P' Q Q' R S : Type 0} → P ↔ P' → Q ↔ Q' → (P × Q × R × S) ↔ (P' × Q' × R × S)
four p q = ((λ h. (p.0 h.0, q.0 h.1, h.2, h.3)), (λ h. (p.1 h.0, q.1 h.1, h.2, h.3)))

either : {P P' Q Q' : Type 0} → P ↔ P' → Q ↔ Q' → (P ⊎ Q) ↔ (P' ⊎ Q')
either {P} {P'} {Q} {Q'} p q = (
  (λ h. elim h as (λ _. P' ⊎ Q') [ inl x ↦ inl (p.0 x) | inr x ↦ inr (q.0 x) ]),
  (λ h. elim h as (λ _. P ⊎ Q) [ inl x ↦ inl (p.1 x) | inr x ↦ inr (q.1 x) ]),
)

pub Says-step : (letter : Bool) (first second : PositionSet) (p q : SuccState) →
    Says letter p (below letter first) (below letter second) → Says letter q (below (not letter) first) (below (not letter) second) →
    Says letter (succ_step p q (first []) (second [])) first second
Says-step letter first second p q of_p of_q = record {
  says_neither = both (succ-neither p q (first []) (second []))
      (both (four of_p.says_neither of_q.says_neither) (back (neither-sides letter first second)));
  says_child = both (succ-child p q (first []) (second []))
      (both (four of_p.says_neither of_q.says_neither) (back (child-sides letter first second)));
  says_found = both (succ-found p q (first []) (second []))
      (both (either (four of_p.says_child of_q.says_neither)
      (either (four of_p.says_found of_q.says_neither) (four of_p.says_neither of_q.says_found)))
      (back (pair-sides letter first second)));
}
