-- When assertions fit, form by form.
use Rattle.std.proofs.Common.{◌≡◌, ◌↔◌, ℕ, List, IsSomeAnd, slice_get, refl, sym, ap, ◌∙◌}
use mathlib.Core.Path.{transport}
use Rattle.store_core.specs.declared.ids.TypeId.{TypeId}
use Rattle.store_core.specs.declared.ids.VariantId.{VariantId}
use Rattle.store_core.specs.declared.kind.Route.{Route}
use Rattle.store_core.specs.Tables.{TypeEntry, KnowsType}
use Rattle.store_logic.specs.declared.term.Base.{Base}
use Rattle.store_logic.specs.declared.term.Term.{Term}
use Rattle.store_logic.specs.declared.arg.Arg.{Arg}
use Rattle.store_logic.specs.declared.assertion.Assertion.{Assertion, roll-Assertion}
use Rattle.store_logic.specs.declared.assertion.Assertion.TheVariants as assertion
use Rattle.store_logic.specs.declared.assertion.Assertion.TheVariants.{rolls-True, rolls-False, rolls-Truth, rolls-Is, rolls-Same, rolls-Member, rolls-Subset}
use Rattle.store_logic.specs.declared.assertion.Assertion.TheVariants.{rolls-Walk, rolls-Pred, rolls-Not, rolls-And, rolls-Or, rolls-Imp, rolls-Iff}
use Rattle.store_logic.specs.declared.assertion.Assertion.TheVariants.{rolls-Ex, rolls-All, rolls-ExSet, rolls-AllSet}
use Rattle.store_logic.specs.declared.assertion.Assertion.TheOpen.{Assertion-F}
use Rattle.store_logic.specs.declared.assertion.Assertion.TheFolds.{rec-roll-Assertion, map-Assertion}
use Rattle.store_logic.specs.Sorts.{Truth, Cell, Set, Scope, TermFits, ArgsFit, under}
use Rattle.store_logic.specs.Fits.{VariantTestFits, SameTestFits, MemberTestFits, SubsetTestFits, WalkTestFits, AssertionFitsNode, FitsIn}

module _ (types : List TypeEntry) where
  natural : (Part : Type 0) (whole : Part → Assertion) (fits : Assertion → Scope → Type 0) (x : Assertion-F Part) →
      AssertionFitsNode types Part whole (λ p. fits (whole p)) x
      ≡ AssertionFitsNode types Assertion (λ a. a) fits (map-Assertion Part Assertion whole x)
  natural Part whole fits Assertion-F.True = refl
  natural Part whole fits Assertion-F.False = refl
  natural Part whole fits (Assertion-F.Truth t) = refl
  natural Part whole fits (Assertion-F.Is t v) = refl
  natural Part whole fits (Assertion-F.Same t u) = refl
  natural Part whole fits (Assertion-F.Member t set) = refl
  natural Part whole fits (Assertion-F.Subset set other) = refl
  natural Part whole fits (Assertion-F.Walk t along u) = refl
  natural Part whole fits (Assertion-F.Pred k args) = refl
  natural Part whole fits (Assertion-F.Not a) = refl
  natural Part whole fits (Assertion-F.And a b) = refl
  natural Part whole fits (Assertion-F.Or a b) = refl
  natural Part whole fits (Assertion-F.Imp a b) = refl
  natural Part whole fits (Assertion-F.Iff a b) = refl
  natural Part whole fits (Assertion-F.Ex ty a) = refl
  natural Part whole fits (Assertion-F.All ty a) = refl
  natural Part whole fits (Assertion-F.ExSet ty a) = refl
  natural Part whole fits (Assertion-F.AllSet ty a) = refl

  -- a path between two claims of scopes, both ways
  both_ways : {P Q : Scope → Type 0} → P ≡ Q → (scope : Scope) → P scope ↔ Q scope
  both_ways path scope = (transport (λ i. path i scope), transport (λ i. sym path i scope))

  at_form : (a : Assertion) (x : Assertion-F Assertion) → roll-Assertion x ≡ a → (scope : Scope) →
      FitsIn types a scope ↔ AssertionFitsNode types Assertion (λ b. b) (FitsIn types) x scope
  at_form a x path = both_ways (ap (FitsIn types) (sym path) ∙ rec-roll-Assertion (Scope → Type 0) (AssertionFitsNode types) natural x)

  module _ (scope : Scope) where
    pub Fits-True : FitsIn types assertion.True scope ↔ Unit {0}
    Fits-True = at_form assertion.True Assertion-F.True rolls-True scope

    pub Fits-False : FitsIn types assertion.False scope ↔ Unit {0}
    Fits-False = at_form assertion.False Assertion-F.False rolls-False scope

    pub Fits-Truth : (t : Term) → FitsIn types (assertion.Truth t) scope ↔ TermFits types scope t Truth
    Fits-Truth t = at_form (assertion.Truth t) (Assertion-F.Truth t) (rolls-Truth t) scope

    pub Fits-Is : (t : Term) (v : VariantId) → FitsIn types (assertion.Is t v) scope ↔ VariantTestFits types scope t v
    Fits-Is t v = at_form (assertion.Is t v) (Assertion-F.Is t v) (rolls-Is t v) scope

    pub Fits-Same : (t u : Term) → FitsIn types (assertion.Same t u) scope ↔ SameTestFits types scope t u
    Fits-Same t u = at_form (assertion.Same t u) (Assertion-F.Same t u) (rolls-Same t u) scope

    pub Fits-Member : (t : Term) (set : Base) → FitsIn types (assertion.Member t set) scope ↔ MemberTestFits types scope t set
    Fits-Member t set = at_form (assertion.Member t set) (Assertion-F.Member t set) (rolls-Member t set) scope

    pub Fits-Subset : (set other : Base) → FitsIn types (assertion.Subset set other) scope ↔ SubsetTestFits scope set other
    Fits-Subset set other = at_form (assertion.Subset set other) (Assertion-F.Subset set other) (rolls-Subset set other) scope

    pub Fits-Walk : (t : Term) (along : Route) (u : Term) → FitsIn types (assertion.Walk t along u) scope ↔ WalkTestFits types scope t along u
    Fits-Walk t along u = at_form (assertion.Walk t along u) (Assertion-F.Walk t along u) (rolls-Walk t along u) scope

    pub Fits-Pred : (k : ℕ) (args : List Arg) → FitsIn types (assertion.Pred k args) scope ↔ IsSomeAnd (slice_get scope.preds k) (ArgsFit types scope args)
    Fits-Pred k args = at_form (assertion.Pred k args) (Assertion-F.Pred k args) (rolls-Pred k args) scope

    pub Fits-Not : (a : Assertion) → FitsIn types (assertion.Not a) scope ↔ FitsIn types a scope
    Fits-Not a = at_form (assertion.Not a) (Assertion-F.Not a) (rolls-Not a) scope

    pub Fits-And : (a b : Assertion) → FitsIn types (assertion.And a b) scope ↔ (FitsIn types a scope × FitsIn types b scope)
    Fits-And a b = at_form (assertion.And a b) (Assertion-F.And a b) (rolls-And a b) scope

    pub Fits-Or : (a b : Assertion) → FitsIn types (assertion.Or a b) scope ↔ (FitsIn types a scope × FitsIn types b scope)
    Fits-Or a b = at_form (assertion.Or a b) (Assertion-F.Or a b) (rolls-Or a b) scope

    pub Fits-Imp : (a b : Assertion) → FitsIn types (assertion.Imp a b) scope ↔ (FitsIn types a scope × FitsIn types b scope)
    Fits-Imp a b = at_form (assertion.Imp a b) (Assertion-F.Imp a b) (rolls-Imp a b) scope

    pub Fits-Iff : (a b : Assertion) → FitsIn types (assertion.Iff a b) scope ↔ (FitsIn types a scope × FitsIn types b scope)
    Fits-Iff a b = at_form (assertion.Iff a b) (Assertion-F.Iff a b) (rolls-Iff a b) scope

    pub Fits-Ex : (ty : TypeId) (a : Assertion) → FitsIn types (assertion.Ex ty a) scope ↔ (KnowsType types ty × FitsIn types a (under (Cell ty) scope))
    Fits-Ex ty a = at_form (assertion.Ex ty a) (Assertion-F.Ex ty a) (rolls-Ex ty a) scope

    pub Fits-All : (ty : TypeId) (a : Assertion) → FitsIn types (assertion.All ty a) scope ↔ (KnowsType types ty × FitsIn types a (under (Cell ty) scope))
    Fits-All ty a = at_form (assertion.All ty a) (Assertion-F.All ty a) (rolls-All ty a) scope

    pub Fits-ExSet : (ty : TypeId) (a : Assertion) → FitsIn types (assertion.ExSet ty a) scope ↔ (KnowsType types ty × FitsIn types a (under (Set ty) scope))
    Fits-ExSet ty a = at_form (assertion.ExSet ty a) (Assertion-F.ExSet ty a) (rolls-ExSet ty a) scope

    pub Fits-AllSet : (ty : TypeId) (a : Assertion) → FitsIn types (assertion.AllSet ty a) scope ↔ (KnowsType types ty × FitsIn types a (under (Set ty) scope))
    Fits-AllSet ty a = at_form (assertion.AllSet ty a) (Assertion-F.AllSet ty a) (rolls-AllSet ty a) scope
