-- Lists of spots that are kept once: equal ones are one, and what is put in is there.
use Rattle.std.proofs.Common.{◌≡◌, ℕ, Bool, true, false, if◌then◌else◌, List, [], ◌∷◌, ◌++◌, map, Contains, Option, Some, None}
use Rattle.std.proofs.Common.{refl, ap, sym, ◌∙◌, subst, inl, inr, eqb-true}
use Rattle.std.specs.Prelude.{◌&&◌, ◌||◌, IsTrue}
use Rattle.std.specs.List.{list_any}
use Rattle.std.specs.Option.{option_eq}
use Rattle.std.specs.Cmp.Lexicographic.{pointwise}
use Rattle.std.specs.Bool.{beq}
use Rattle.std.proofs.lemmas.Bool.{cases_Bool, false≢true}
use Rattle.std.proofs.lemmas.List.Elements.{Contains-append_right}
use Rattle.gta_theory.proofs.ListsLemmas.{Contains-first, Contains-later}
use Rattle.cert_text.specs.declared.line.Target.{Target}
use Rattle.cert_text.specs.declared.line.Target.TheVariants as target
use Rattle.cert_text.specs.contracts.line.TargetPartialEq.TheImpl as target_eq
use Rattle.cert_nodes.specs.declared.spots.Spot.{Spot}
use Rattle.cert_nodes.specs.contracts.spots.SpotPartialEq.TheImpl as spot_eq
use Rattle.cert_nodes.specs.Walks.{AddsAtMost}

and-left : (a b : Bool) → IsTrue (a && b) → IsTrue a
and-left true b e = refl
and-left false b e = e

and-right : (a b : Bool) → IsTrue (a && b) → IsTrue b
and-right true b e = e
and-right false b e = absurd (false≢true e)

same-bool : (a b : Bool) → beq a b ≡ true → a ≡ b
same-bool true true e = refl
same-bool true false e = absurd (false≢true e)
same-bool false true e = absurd (false≢true e)
same-bool false false e = refl

same-fixed : (a b : Option Bool) → option_eq beq a b ≡ true → a ≡ b
same-fixed None None e = refl
same-fixed None (Some y) e = absurd (false≢true e)
same-fixed (Some x) None e = absurd (false≢true e)
same-fixed (Some x) (Some y) e = ap (λ (b : Bool). let o : Option Bool = Some b in o) (same-bool x y e)

abbrev pub same_target : Target → Target → Bool
same_target = (target_eq.ghosts).eq

same_target-true : (a b : Target) → same_target a b ≡ true → a ≡ b
same_target-true (target.State p) (target.State q) e = ap (λ (n : ℕ). target.State n) (eqb-true p q e)
same_target-true (target.State p) (target.Node q) e = absurd (false≢true e)
same_target-true (target.Node p) (target.State q) e = absurd (false≢true e)
same_target-true (target.Node p) (target.Node q) e = ap (λ (n : ℕ). target.Node n) (eqb-true p q e)

abbrev pub same_spot : Spot → Spot → Bool
same_spot = (spot_eq.ghosts).eq

spots-same : (a b : Spot) → a.in_atoms ≡ b.in_atoms → a.target ≡ b.target → a.fixed ≡ b.fixed → a ≡ b
spots-same a b in_atoms target fixed = λ i. record { in_atoms = in_atoms i; target = target i; fixed = fixed i }

same_spot-true : (a b : Spot) → same_spot a b ≡ true → a ≡ b
same_spot-true a b e =
    let rest = same_target a.target b.target && option_eq beq a.fixed b.fixed in
    let later = and-right (beq a.in_atoms b.in_atoms) rest e in
    spots-same a b
    (same-bool a.in_atoms b.in_atoms (and-left (beq a.in_atoms b.in_atoms) rest e))
    (same_target-true a.target b.target (and-left (same_target a.target b.target) (option_eq beq a.fixed b.fixed) later))
    (same-fixed a.fixed b.fixed (and-right (same_target a.target b.target) (option_eq beq a.fixed b.fixed) later))

-- lists that a test calls equal are equal
pub same_list-true : (xs ys : List Spot) → pointwise same_spot xs ys ≡ true → xs ≡ ys
same_list-true [] [] e = refl
same_list-true [] (y ∷ ys) e = absurd (false≢true e)
same_list-true (x ∷ xs) [] e = absurd (false≢true e)
same_list-true (x ∷ xs) (y ∷ ys) e =
    ap (λ (s : Spot). s ∷ xs) (same_spot-true x y (and-left (same_spot x y) (pointwise same_spot xs ys) e))
    ∙ ap (λ (ss : List Spot). y ∷ ss) (same_list-true xs ys (and-right (same_spot x y) (pointwise same_spot xs ys) e))

module _ {K X : Type 0} (eq : K → K → Bool) (view : K → X) (same : (a b : K) → eq a b ≡ true → view a ≡ view b) where
  found : (ks : List K) (k : K) → list_any (eq k) ks ≡ true → Contains (map view ks) (view k)
  found [] k e = absurd (false≢true e)
  found (x ∷ ks) k e = elim (cases_Bool (eq k x)) as (λ _. Contains (map view (x ∷ ks)) (view k)) [
    | inl here ↦ subst (Contains (view x ∷ map view ks)) (sym (same k x here)) (Contains-first (view x) (map view ks))
    | inr other ↦ Contains-later (view x) (view k) (map view ks) (found ks k (sym (ap (λ (b : Bool). b || list_any (eq k) ks) other) ∙ e))
  ]

  map-push : (ks : List K) (k : K) → map view (ks ++ k ∷ []) ≡ map view ks ++ view k ∷ []
  map-push [] k = refl
  map-push (x ∷ ks) k = ap (λ (vs : List X). view x ∷ vs) (map-push ks k)

  pub inserted : (old new : List K) (k : K) → new ≡ (if list_any (eq k) old then old else old ++ k ∷ []) →
      AddsAtMost (map view old) (view k) (map view new)
  inserted old new k is = elim (cases_Bool (list_any (eq k) old)) [
    | inl there ↦ inl (ap (map view) (is ∙ ap (λ (b : Bool). if b then old else old ++ k ∷ []) there))
    | inr absent ↦ inr (ap (map view) (is ∙ ap (λ (b : Bool). if b then old else old ++ k ∷ []) absent) ∙ map-push old k)
  ]

  pub inserted-there : (old new : List K) (k : K) → new ≡ (if list_any (eq k) old then old else old ++ k ∷ []) →
      Contains (map view new) (view k)
  inserted-there old new k is = elim (cases_Bool (list_any (eq k) old)) as (λ _. Contains (map view new) (view k)) [
    | inl there ↦ subst (λ (ks : List K). Contains (map view ks) (view k))
        (sym (is ∙ ap (λ (b : Bool). if b then old else old ++ k ∷ []) there)) (found old k there)
    | inr absent ↦ subst (λ (vs : List X). Contains vs (view k))
        (sym (ap (map view) (is ∙ ap (λ (b : Bool). if b then old else old ++ k ∷ []) absent) ∙ map-push old k))
        (Contains-append_right (map view old) (view k ∷ []) (view k) (Contains-first (view k) []))
  ]
