-- Predicates of chains can be put in.
use Rattle.std.proofs.Common.{◌≡◌, ℕ, zero, suc, ◌<◌, ◌≤◌, List, [], ◌∷◌, length, slice_get, Option, Some, None, IfSome, IsSomeAnd}
use Rattle.std.proofs.Common.{sym, refl, ap, ◌∙◌, subst, arith}
use Rattle.std.specs.List.{AllByRecursion}
use Rattle.store_logic.specs.declared.arg.Arg.{Arg}
use Rattle.store_logic.specs.declared.assertion.Assertion.TheVariants as assertion
use Rattle.store_logic.specs.declared.pred.PredDef.{PredDef}
use Rattle.store_logic.specs.Uses.{names_in, uses_in, IsGiven, IsOwn, IsRightUse, IsBodyAt, CanExpand}
use Rattle.store_logic.proofs.ExpandingForms.{uses-Pred}
use Rattle.store_tests.specs.Chains.{UsesBefore, IsLink, IsChain}

module _ (preds : List PredDef) (chain : IsChain preds) where
  found : (k : ℕ) → k < length preds → (p : PredDef) × (slice_get preds k ≡ Some p)
  found k inside = of preds k inside
    where
      of : (l : List PredDef) (k : ℕ) → k < length l → (p : PredDef) × (slice_get l k ≡ Some p)
      of [] k inside = absurd (omega arith)
      of (q ∷ l) zero inside = (q, refl)
      of (q ∷ l) (suc k) inside = of l k (omega arith)

  link : (k : ℕ) (p : PredDef) → slice_get preds k ≡ Some p → IsLink k p
  link k p at = subst (λ (o : Option PredDef). IfSome o (IsLink k)) at (chain k)

  right : (first : ℕ) → first ≤ length preds → (u : ℕ × List Arg) → UsesBefore first u → IsRightUse preds first u
  right first within u before =
      let it = found u.0 (let inner : u.0 < length preds = omega (arith, before.0) in inner) in
      let own = link u.0 it.0 it.1 in record {
        among = before.0;
        args = subst (λ (o : Option PredDef). IsSomeAnd o (λ p. (length u.1 ≡ p.params) × AllByRecursion (IsGiven u.1) (names_in p.body))) (sym it.1)
            (ap length before.1 ∙ sym own.params, subst (AllByRecursion (IsGiven u.1)) (sym own.names) tt);
      }

  rights : (first : ℕ) → first ≤ length preds → (us : List (ℕ × List Arg)) → AllByRecursion (UsesBefore first) us →
      AllByRecursion (IsRightUse preds first) us
  rights first within [] all = tt
  rights first within (u ∷ us) all = (right first within u all.0, rights first within us all.1)

  before : (l : List PredDef) (k : ℕ) (p : PredDef) → slice_get l k ≡ Some p → k ≤ length l
  before [] k p at = absurd cc
  before (q ∷ l) zero p at = omega arith
  before (q ∷ l) (suc k) p at = let rest : k ≤ length l = before l k p at in omega arith

  -- the last predicates of a chain can be put in
  pub can-expand : (k : ℕ) → k < length preds → CanExpand preds (assertion.Pred k [])
  can-expand k inside = record {
    bodies = λ j. of j (slice_get preds j) refl;
    uses = subst (AllByRecursion (IsRightUse preds (length preds))) (sym (uses-Pred k [])) (right (length preds) (omega arith) (k, []) (inside, refl), tt);
  }
    where
      of : (j : ℕ) (o : Option PredDef) → slice_get preds j ≡ o → IfSome o (IsBodyAt preds j)
      of j None at = tt
      of j (Some p) at = record {
        uses = rights j (before preds j p at) (uses_in p.body) (link j p at).uses;
        names = subst (AllByRecursion (IsOwn p.params)) (sym (link j p at).names) tt;
      }
