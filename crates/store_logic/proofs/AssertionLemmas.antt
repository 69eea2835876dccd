-- Induction over assertions, and what a fold is at each form.
use Rattle.std.proofs.Common.{◌≡◌, ℕ, List, sym, ap, ◌∙◌, subst}
use Rattle.store_core.specs.declared.ids.TypeId.{TypeId}
use Rattle.store_core.specs.declared.ids.VariantId.{VariantId}
use Rattle.store_core.specs.declared.kind.Route.{Route}
use Rattle.store_logic.specs.declared.term.Base.{Base}
use Rattle.store_logic.specs.declared.term.Term.{Term}
use Rattle.store_logic.specs.declared.arg.Arg.{Arg}
use Rattle.store_logic.specs.declared.assertion.Assertion.{Assertion, roll-Assertion}
use Rattle.store_logic.specs.declared.assertion.Assertion.TheVariants as assertion
use Rattle.store_logic.specs.declared.assertion.Assertion.TheVariants.{rolls-True, rolls-False, rolls-Truth, rolls-Is, rolls-Same, rolls-Member, rolls-Subset}
use Rattle.store_logic.specs.declared.assertion.Assertion.TheVariants.{rolls-Walk, rolls-Pred, rolls-Not, rolls-And, rolls-Or, rolls-Imp, rolls-Iff}
use Rattle.store_logic.specs.declared.assertion.Assertion.TheVariants.{rolls-Ex, rolls-All, rolls-ExSet, rolls-AllSet}
use Rattle.store_logic.specs.declared.assertion.Assertion.TheOpen.{Assertion-F}
use Rattle.store_logic.specs.declared.assertion.Assertion.TheFolds.{ind-Assertion, map-Assertion, fold-Assertion, fold-roll-Assertion}

-- what each form has from its parts
pub record IsHereditary (P : Assertion → Type 0) : Type 0 where
  pub of_True : P assertion.True
  pub of_False : P assertion.False
  pub of_Truth : (t : Term) → P (assertion.Truth t)
  pub of_Is : (t : Term) (v : VariantId) → P (assertion.Is t v)
  pub of_Same : (t u : Term) → P (assertion.Same t u)
  pub of_Member : (t : Term) (set : Base) → P (assertion.Member t set)
  pub of_Subset : (set other : Base) → P (assertion.Subset set other)
  pub of_Walk : (t : Term) (along : Route) (u : Term) → P (assertion.Walk t along u)
  pub of_Pred : (k : ℕ) (args : List Arg) → P (assertion.Pred k args)
  pub of_Not : (a : Assertion) → P a → P (assertion.Not a)
  pub of_And : (a b : Assertion) → P a → P b → P (assertion.And a b)
  pub of_Or : (a b : Assertion) → P a → P b → P (assertion.Or a b)
  pub of_Imp : (a b : Assertion) → P a → P b → P (assertion.Imp a b)
  pub of_Iff : (a b : Assertion) → P a → P b → P (assertion.Iff a b)
  pub of_Ex : (ty : TypeId) (a : Assertion) → P a → P (assertion.Ex ty a)
  pub of_All : (ty : TypeId) (a : Assertion) → P a → P (assertion.All ty a)
  pub of_ExSet : (ty : TypeId) (a : Assertion) → P a → P (assertion.ExSet ty a)
  pub of_AllSet : (ty : TypeId) (a : Assertion) → P a → P (assertion.AllSet ty a)

-- every assertion has
pub assertion-induction : (P : Assertion → Type 0) → IsHereditary P → (a : Assertion) → P a
assertion-induction P h = ind-Assertion P (λ x y e. subst (λ (d : Assertion-F Assertion). P (roll-Assertion d)) e (made y))
  where
    made : (y : Assertion-F ((a : Assertion) × P a)) → P (roll-Assertion (map-Assertion ((a : Assertion) × P a) Assertion (λ e. e.0) y))
    made Assertion-F.True = subst P (sym rolls-True) h.of_True
    made Assertion-F.False = subst P (sym rolls-False) h.of_False
    made (Assertion-F.Truth t) = subst P (sym (rolls-Truth t)) (h.of_Truth t)
    made (Assertion-F.Is t v) = subst P (sym (rolls-Is t v)) (h.of_Is t v)
    made (Assertion-F.Same t u) = subst P (sym (rolls-Same t u)) (h.of_Same t u)
    made (Assertion-F.Member t set) = subst P (sym (rolls-Member t set)) (h.of_Member t set)
    made (Assertion-F.Subset set other) = subst P (sym (rolls-Subset set other)) (h.of_Subset set other)
    made (Assertion-F.Walk t along u) = subst P (sym (rolls-Walk t along u)) (h.of_Walk t along u)
    made (Assertion-F.Pred k args) = subst P (sym (rolls-Pred k args)) (h.of_Pred k args)
    made (Assertion-F.Not a) = subst P (sym (rolls-Not a.0)) (h.of_Not a.0 a.1)
    made (Assertion-F.And a b) = subst P (sym (rolls-And a.0 b.0)) (h.of_And a.0 b.0 a.1 b.1)
    made (Assertion-F.Or a b) = subst P (sym (rolls-Or a.0 b.0)) (h.of_Or a.0 b.0 a.1 b.1)
    made (Assertion-F.Imp a b) = subst P (sym (rolls-Imp a.0 b.0)) (h.of_Imp a.0 b.0 a.1 b.1)
    made (Assertion-F.Iff a b) = subst P (sym (rolls-Iff a.0 b.0)) (h.of_Iff a.0 b.0 a.1 b.1)
    made (Assertion-F.Ex ty a) = subst P (sym (rolls-Ex ty a.0)) (h.of_Ex ty a.0 a.1)
    made (Assertion-F.All ty a) = subst P (sym (rolls-All ty a.0)) (h.of_All ty a.0 a.1)
    made (Assertion-F.ExSet ty a) = subst P (sym (rolls-ExSet ty a.0)) (h.of_ExSet ty a.0 a.1)
    made (Assertion-F.AllSet ty a) = subst P (sym (rolls-AllSet ty a.0)) (h.of_AllSet ty a.0 a.1)

-- a fold at each form
module _ (A : Type 0) (step : Assertion-F A → A) where
  fold-at : (a : Assertion) (x : Assertion-F Assertion) → roll-Assertion x ≡ a →
      fold-Assertion A step a ≡ step (map-Assertion Assertion A (fold-Assertion A step) x)
  fold-at a x e = ap (fold-Assertion A step) (sym e) ∙ fold-roll-Assertion A step x

  pub fold-True : fold-Assertion A step assertion.True ≡ step Assertion-F.True
  fold-True = fold-at assertion.True Assertion-F.True rolls-True

  pub fold-False : fold-Assertion A step assertion.False ≡ step Assertion-F.False
  fold-False = fold-at assertion.False Assertion-F.False rolls-False

  pub fold-Truth : (t : Term) → fold-Assertion A step (assertion.Truth t) ≡ step (Assertion-F.Truth t)
  fold-Truth t = fold-at (assertion.Truth t) (Assertion-F.Truth t) (rolls-Truth t)

  pub fold-Is : (t : Term) (v : VariantId) → fold-Assertion A step (assertion.Is t v) ≡ step (Assertion-F.Is t v)
  fold-Is t v = fold-at (assertion.Is t v) (Assertion-F.Is t v) (rolls-Is t v)

  pub fold-Same : (t u : Term) → fold-Assertion A step (assertion.Same t u) ≡ step (Assertion-F.Same t u)
  fold-Same t u = fold-at (assertion.Same t u) (Assertion-F.Same t u) (rolls-Same t u)

  pub fold-Member : (t : Term) (set : Base) → fold-Assertion A step (assertion.Member t set) ≡ step (Assertion-F.Member t set)
  fold-Member t set = fold-at (assertion.Member t set) (Assertion-F.Member t set) (rolls-Member t set)

  pub fold-Subset : (set other : Base) → fold-Assertion A step (assertion.Subset set other) ≡ step (Assertion-F.Subset set other)
  fold-Subset set other = fold-at (assertion.Subset set other) (Assertion-F.Subset set other) (rolls-Subset set other)

  pub fold-Walk : (t : Term) (along : Route) (u : Term) → fold-Assertion A step (assertion.Walk t along u) ≡ step (Assertion-F.Walk t along u)
  fold-Walk t along u = fold-at (assertion.Walk t along u) (Assertion-F.Walk t along u) (rolls-Walk t along u)

  pub fold-Pred : (k : ℕ) (args : List Arg) → fold-Assertion A step (assertion.Pred k args) ≡ step (Assertion-F.Pred k args)
  fold-Pred k args = fold-at (assertion.Pred k args) (Assertion-F.Pred k args) (rolls-Pred k args)

  pub fold-Not : (a : Assertion) → fold-Assertion A step (assertion.Not a) ≡ step (Assertion-F.Not (fold-Assertion A step a))
  fold-Not a = fold-at (assertion.Not a) (Assertion-F.Not a) (rolls-Not a)

  pub fold-And : (a b : Assertion) → fold-Assertion A step (assertion.And a b) ≡ step (Assertion-F.And (fold-Assertion A step a) (fold-Assertion A step b))
  fold-And a b = fold-at (assertion.And a b) (Assertion-F.And a b) (rolls-And a b)

  pub fold-Or : (a b : Assertion) → fold-Assertion A step (assertion.Or a b) ≡ step (Assertion-F.Or (fold-Assertion A step a) (fold-Assertion A step b))
  fold-Or a b = fold-at (assertion.Or a b) (Assertion-F.Or a b) (rolls-Or a b)

  pub fold-Imp : (a b : Assertion) → fold-Assertion A step (assertion.Imp a b) ≡ step (Assertion-F.Imp (fold-Assertion A step a) (fold-Assertion A step b))
  fold-Imp a b = fold-at (assertion.Imp a b) (Assertion-F.Imp a b) (rolls-Imp a b)

  pub fold-Iff : (a b : Assertion) → fold-Assertion A step (assertion.Iff a b) ≡ step (Assertion-F.Iff (fold-Assertion A step a) (fold-Assertion A step b))
  fold-Iff a b = fold-at (assertion.Iff a b) (Assertion-F.Iff a b) (rolls-Iff a b)

  pub fold-Ex : (ty : TypeId) (a : Assertion) → fold-Assertion A step (assertion.Ex ty a) ≡ step (Assertion-F.Ex ty (fold-Assertion A step a))
  fold-Ex ty a = fold-at (assertion.Ex ty a) (Assertion-F.Ex ty a) (rolls-Ex ty a)

  pub fold-All : (ty : TypeId) (a : Assertion) → fold-Assertion A step (assertion.All ty a) ≡ step (Assertion-F.All ty (fold-Assertion A step a))
  fold-All ty a = fold-at (assertion.All ty a) (Assertion-F.All ty a) (rolls-All ty a)

  pub fold-ExSet : (ty : TypeId) (a : Assertion) → fold-Assertion A step (assertion.ExSet ty a) ≡ step (Assertion-F.ExSet ty (fold-Assertion A step a))
  fold-ExSet ty a = fold-at (assertion.ExSet ty a) (Assertion-F.ExSet ty a) (rolls-ExSet ty a)

  pub fold-AllSet : (ty : TypeId) (a : Assertion) → fold-Assertion A step (assertion.AllSet ty a) ≡ step (Assertion-F.AllSet ty (fold-Assertion A step a))
  fold-AllSet ty a = fold-at (assertion.AllSet ty a) (Assertion-F.AllSet ty a) (rolls-AllSet ty a)
