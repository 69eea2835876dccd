-- What is put into a list that has each element once.
use Rattle.std.proofs.Common.{◌≡◌, ◌⊎◌, inl, inr, Bool, true, if◌then◌else◌, List, [], ◌∷◌, ◌++◌, map, Contains, ap, sym, ◌∙◌, subst}
use Rattle.std.specs.Prelude.{◌↔◌, ◌||◌}
use Rattle.std.specs.List.{list_any}
use Rattle.std.proofs.lemmas.Bool.{cases_Bool, false≢true}
use Rattle.gta_theory.proofs.ListsLemmas.{Contains-first, Contains-later}
use Rattle.cert_nodes.specs.Walks.{AddsAtMost}
use Rattle.cert_nodes.proofs.MetLemmas.{inserted, inserted-there}
use Rattle.cert_nodes.proofs.WalksLemmas.{last, adds-cases, Grows-adds}

pub adds-either : {X : Type 0} (old new : List X) (made : X) → AddsAtMost old made new → Contains new made →
    (x : X) → Contains new x ↔ (Contains old x ⊎ (made ≡ x))
adds-either old new made adds there x = (
  (λ listed. adds-cases old new made x adds listed),
  (λ either. elim either [
    | inl before ↦ (Grows-adds old new made adds).has x before
    | inr is ↦ subst (Contains new) is there
  ]),
)

module _ {K : Type 0} (eq : K → K → Bool) (same : (a b : K) → eq a b ≡ true → a ≡ b) where
  found : (ks : List K) (k : K) → list_any (eq k) ks ≡ true → Contains ks k
  found [] k e = absurd (false≢true e)
  found (x ∷ ks) k e = elim (cases_Bool (eq k x)) as (λ _. Contains (x ∷ ks) k) [
    | inl here ↦ subst (Contains (x ∷ ks)) (sym (same k x here)) (Contains-first x ks)
    | inr other ↦ Contains-later x k ks (found ks k (sym (ap (λ (b : Bool). b || list_any (eq k) ks) other) ∙ e))
  ]

  pub insert-either : (old new : List K) (k : K) → new ≡ (if list_any (eq k) old then old else old ++ k ∷ []) →
      (x : K) → Contains new x ↔ (Contains old x ⊎ (k ≡ x))
  insert-either old new k is = elim (cases_Bool (list_any (eq k) old)) as (λ _. (x : K) → Contains new x ↔ (Contains old x ⊎ (k ≡ x))) [
    | inl there ↦
        let kept = is ∙ ap (λ (b : Bool). if b then old else old ++ k ∷ []) there in
        adds-either old new k (inl kept) (subst (λ (ks : List K). Contains ks k) (sym kept) (found old k there))
    | inr absent ↦
        let grown = is ∙ ap (λ (b : Bool). if b then old else old ++ k ∷ []) absent in
        adds-either old new k (inr grown) (subst (λ (ks : List K). Contains ks k) (sym grown) (last old k))
  ]

-- the same of what is seen of the elements
pub insert-viewed : {K X : Type 0} (eq : K → K → Bool) (view : K → X) (same : (a b : K) → eq a b ≡ true → view a ≡ view b)
    (old new : List K) (k : K) → new ≡ (if list_any (eq k) old then old else old ++ k ∷ []) →
    (x : X) → Contains (map view new) x ↔ (Contains (map view old) x ⊎ (view k ≡ x))
insert-viewed eq view same old new k is =
    adds-either (map view old) (map view new) (view k) (inserted eq view same old new k is) (inserted-there eq view same old new k is)
