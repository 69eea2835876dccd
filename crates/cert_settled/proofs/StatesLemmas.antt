-- Lists of settled states, each once.
use Rattle.std.proofs.Common.{◌≡◌, inl, inr, Bool, true, if◌then◌else◌, List, [], ◌∷◌, ◌++◌, map, Contains}
use Rattle.std.proofs.Common.{refl, ap, sym, ◌∙◌, subst, eqb-true, eq-eqb}
use Rattle.std.specs.Prelude.{◌||◌, ◌↔◌, IsTrue, nat_eq}
use Rattle.std.specs.List.{list_any}
use Rattle.std.proofs.lemmas.Bool.{cases_Bool, false≢true}
use Rattle.gta_theory.proofs.ListsLemmas.{Contains-first, Contains-later, Contains-cases, Contains-none}
use Rattle.cert_theory.specs.Tables.{PlacedState}
use Rattle.cert_tables.proofs.TestsLemmas.{and-left, and-right, and-both}
use Rattle.cert_settled.specs.declared.states.Placed.{Placed}
use Rattle.cert_settled.specs.contracts.states.PlacedPartialEq.TheImpl as placed_eq
use Rattle.cert_settled.specs.Settling.{placed}

abbrev pub same_placed : Placed → Placed → Bool
same_placed = (placed_eq.ghosts).eq

pub places-same : (a b : PlacedState) → a.space ≡ b.space → a.state ≡ b.state → a ≡ b
places-same a b space state = λ i. record { space = space i; state = state i }

pub same_placed-true : (a b : Placed) → same_placed a b ≡ true → placed a ≡ placed b
same_placed-true a b e =
    places-same (placed a) (placed b)
    (eqb-true a.space b.space (and-left (nat_eq a.space b.space) (nat_eq a.state b.state) e))
    (eqb-true a.state b.state (and-right (nat_eq a.space b.space) (nat_eq a.state b.state) e))

same_placed-equal : (a b : Placed) → placed a ≡ placed b → same_placed a b ≡ true
same_placed-equal a b is =
    and-both (nat_eq a.space b.space) (nat_eq a.state b.state)
    (eq-eqb a.space b.space (ap (λ (p : PlacedState). p.space) is)) (eq-eqb a.state b.state (ap (λ (p : PlacedState). p.state) is))

-- the test of the set is whether the state is listed
pub lists-any : (ks : List Placed) (k : Placed) → IsTrue (list_any (same_placed k) ks) ↔ Contains (map placed ks) (placed k)
lists-any [] k = ((λ yes. absurd (false≢true yes)), (λ listed. absurd (Contains-none (placed k) listed)))
lists-any (x ∷ ks) k = elim (cases_Bool (same_placed k x)) as (λ _. IsTrue (list_any (same_placed k) (x ∷ ks)) ↔ Contains (map placed (x ∷ ks)) (placed k)) [
  | inl here ↦ (
    (λ yes. subst (Contains (placed x ∷ map placed ks)) (sym (same_placed-true k x here)) (Contains-first (placed x) (map placed ks))),
    (λ listed. ap (λ (b : Bool). b || list_any (same_placed k) ks) here),
  )
  | inr other ↦ (
    (λ yes. Contains-later (placed x) (placed k) (map placed ks)
        ((lists-any ks k).0 (sym (ap (λ (b : Bool). b || list_any (same_placed k) ks) other) ∙ yes))),
    (λ listed. elim (Contains-cases (placed x) (placed k) (map placed ks) listed) [
      | inl is ↦ absurd (false≢true (sym other ∙ same_placed-equal k x (sym is)))
      | inr later ↦ ap (λ (b : Bool). b || list_any (same_placed k) ks) other ∙ (lists-any ks k).1 later
    ]),
  )
]

map-push : (ks : List Placed) (k : Placed) → map placed (ks ++ k ∷ []) ≡ map placed ks ++ placed k ∷ []
map-push [] k = refl
map-push (x ∷ ks) k = ap (λ (vs : List PlacedState). placed x ∷ vs) (map-push ks k)

-- a state that isn't there goes behind the others
pub pushed : (old new : List Placed) (k : Placed) → new ≡ (if list_any (same_placed k) old then old else old ++ k ∷ []) →
    (Contains (map placed old) (placed k) → ⊥) → map placed new ≡ map placed old ++ placed k ∷ []
pushed old new k is absent = elim (cases_Bool (list_any (same_placed k) old)) as (λ _. map placed new ≡ map placed old ++ placed k ∷ []) [
  | inl there ↦ absurd (absent ((lists-any old k).0 there))
  | inr none ↦ ap (map placed) (is ∙ ap (λ (b : Bool). if b then old else old ++ k ∷ []) none) ∙ map-push old k
]
