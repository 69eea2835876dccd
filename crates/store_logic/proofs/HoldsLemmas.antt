-- When assertions hold, form by form.
use Rattle.std.proofs.Common.{◌≡◌, ◌↔◌, ◌⊎◌, ℕ, IsTrue, IsSomeAnd, List, map, Some, Contains, refl, sym, ap, ◌∙◌}
use mathlib.Core.Path.{transport}
use Rattle.store_core.specs.declared.ids.TypeId.{TypeId}
use Rattle.store_core.specs.declared.ids.VariantId.{VariantId}
use Rattle.store_core.specs.declared.ids.CellId.{CellId}
use Rattle.store_core.specs.declared.kind.Route.{Route}
use Rattle.store_core.specs.declared.value.Value.{Value}
use Rattle.store_core.specs.declared.value.Value.TheVariants as value
use Rattle.store_core.specs.Tables.{TypeEntry}
use Rattle.store_core.specs.Stores.{StoreMap, IsLive}
use Rattle.routing_walks.specs.Walks.{DataAndPointers, Walk, IsOfType, IsOfVariant}
use Rattle.store_logic.specs.declared.term.Base.{Base}
use Rattle.store_logic.specs.declared.term.Term.{Term}
use Rattle.store_logic.specs.declared.arg.Arg.{Arg}
use Rattle.store_logic.specs.declared.assertion.Assertion.{Assertion, roll-Assertion}
use Rattle.store_logic.specs.declared.assertion.Assertion.TheVariants as assertion
use Rattle.store_logic.specs.declared.assertion.Assertion.TheVariants.{rolls-True, rolls-False, rolls-Truth, rolls-Is, rolls-Same, rolls-Member, rolls-Subset}
use Rattle.store_logic.specs.declared.assertion.Assertion.TheVariants.{rolls-Walk, rolls-Pred, rolls-Not, rolls-And, rolls-Or, rolls-Imp, rolls-Iff}
use Rattle.store_logic.specs.declared.assertion.Assertion.TheVariants.{rolls-Ex, rolls-All, rolls-ExSet, rolls-AllSet}
use Rattle.store_logic.specs.declared.assertion.Assertion.TheOpen.{Assertion-F}
use Rattle.store_logic.specs.declared.assertion.Assertion.TheFolds.{rec-roll-Assertion, map-Assertion}
use Rattle.store_logic.specs.Terms.{Environment, under, cell_at, truth_at, set_at, arg_value}
use Rattle.store_logic.specs.Satisfaction.{IsSetOf, HoldsNode, Holds}

module _ (types : List TypeEntry) (s : StoreMap) (says : ℕ → List Value → Type 0) where
  natural : (Part : Type 0) (whole : Part → Assertion) (holds : Assertion → Environment → Type 0) (x : Assertion-F Part) →
      HoldsNode types s says Part whole (λ p. holds (whole p)) x
      ≡ HoldsNode types s says Assertion (λ a. a) holds (map-Assertion Part Assertion whole x)
  natural Part whole holds Assertion-F.True = refl
  natural Part whole holds Assertion-F.False = refl
  natural Part whole holds (Assertion-F.Truth t) = refl
  natural Part whole holds (Assertion-F.Is t v) = refl
  natural Part whole holds (Assertion-F.Same t u) = refl
  natural Part whole holds (Assertion-F.Member t set) = refl
  natural Part whole holds (Assertion-F.Subset set other) = refl
  natural Part whole holds (Assertion-F.Walk t along u) = refl
  natural Part whole holds (Assertion-F.Pred k args) = refl
  natural Part whole holds (Assertion-F.Not a) = refl
  natural Part whole holds (Assertion-F.And a b) = refl
  natural Part whole holds (Assertion-F.Or a b) = refl
  natural Part whole holds (Assertion-F.Imp a b) = refl
  natural Part whole holds (Assertion-F.Iff a b) = refl
  natural Part whole holds (Assertion-F.Ex ty a) = refl
  natural Part whole holds (Assertion-F.All ty a) = refl
  natural Part whole holds (Assertion-F.ExSet ty a) = refl
  natural Part whole holds (Assertion-F.AllSet ty a) = refl

  Holds-roll : (x : Assertion-F Assertion) → Holds types s says (roll-Assertion x) ≡ HoldsNode types s says Assertion (λ a. a) (Holds types s says) x
  Holds-roll = rec-roll-Assertion (Environment → Type 0) (HoldsNode types s says) natural

  -- a path between two claims of environments, both ways
  both_ways : {P Q : Environment → Type 0} → P ≡ Q → (e : Environment) → P e ↔ Q e
  both_ways path e = (transport (λ i. path i e), transport (λ i. sym path i e))

  at_form : (a : Assertion) (x : Assertion-F Assertion) → roll-Assertion x ≡ a → (e : Environment) →
      Holds types s says a e ↔ HoldsNode types s says Assertion (λ b. b) (Holds types s says) x e
  at_form a x path = both_ways (ap (Holds types s says) (sym path) ∙ Holds-roll x)

  pub Holds-True : (e : Environment) → Holds types s says assertion.True e ↔ Unit {0}
  Holds-True = at_form assertion.True Assertion-F.True rolls-True

  pub Holds-False : (e : Environment) → Holds types s says assertion.False e ↔ ⊥
  Holds-False = at_form assertion.False Assertion-F.False rolls-False

  pub Holds-Truth : (t : Term) (e : Environment) → Holds types s says (assertion.Truth t) e ↔ IsTrue (truth_at s e t)
  Holds-Truth t = at_form (assertion.Truth t) (Assertion-F.Truth t) (rolls-Truth t)

  pub Holds-Is : (t : Term) (v : VariantId) (e : Environment) → Holds types s says (assertion.Is t v) e ↔ IsSomeAnd (cell_at s e t) (IsOfVariant s v)
  Holds-Is t v = at_form (assertion.Is t v) (Assertion-F.Is t v) (rolls-Is t v)

  pub Holds-Same : (t u : Term) (e : Environment) → Holds types s says (assertion.Same t u) e ↔ (cell_at s e t ≡ cell_at s e u)
  Holds-Same t u = at_form (assertion.Same t u) (Assertion-F.Same t u) (rolls-Same t u)

  pub Holds-Member : (t : Term) (set : Base) (e : Environment) → Holds types s says (assertion.Member t set) e ↔
      IsSomeAnd (cell_at s e t) (Contains (set_at s e set))
  Holds-Member t set = at_form (assertion.Member t set) (Assertion-F.Member t set) (rolls-Member t set)

  pub Holds-Subset : (set other : Base) (e : Environment) → Holds types s says (assertion.Subset set other) e ↔
      ((c : CellId) → IsLive s c → Contains (set_at s e set) c → Contains (set_at s e other) c)
  Holds-Subset set other = at_form (assertion.Subset set other) (Assertion-F.Subset set other) (rolls-Subset set other)

  pub Holds-Walk : (t : Term) (along : Route) (u : Term) (e : Environment) → Holds types s says (assertion.Walk t along u) e ↔
      IsSomeAnd (cell_at s e t) (λ from. IsSomeAnd (cell_at s e u) (λ to. Walk types s DataAndPointers along from to))
  Holds-Walk t along u = at_form (assertion.Walk t along u) (Assertion-F.Walk t along u) (rolls-Walk t along u)

  pub Holds-Pred : (k : ℕ) (args : List Arg) (e : Environment) → Holds types s says (assertion.Pred k args) e ↔ says k (map (arg_value s e) args)
  Holds-Pred k args = at_form (assertion.Pred k args) (Assertion-F.Pred k args) (rolls-Pred k args)

  pub Holds-Not : (a : Assertion) (e : Environment) → Holds types s says (assertion.Not a) e ↔ (Holds types s says a e → ⊥)
  Holds-Not a = at_form (assertion.Not a) (Assertion-F.Not a) (rolls-Not a)

  pub Holds-And : (a b : Assertion) (e : Environment) → Holds types s says (assertion.And a b) e ↔ (Holds types s says a e × Holds types s says b e)
  Holds-And a b = at_form (assertion.And a b) (Assertion-F.And a b) (rolls-And a b)

  pub Holds-Or : (a b : Assertion) (e : Environment) → Holds types s says (assertion.Or a b) e ↔ (Holds types s says a e ⊎ Holds types s says b e)
  Holds-Or a b = at_form (assertion.Or a b) (Assertion-F.Or a b) (rolls-Or a b)

  pub Holds-Imp : (a b : Assertion) (e : Environment) → Holds types s says (assertion.Imp a b) e ↔ (Holds types s says a e → Holds types s says b e)
  Holds-Imp a b = at_form (assertion.Imp a b) (Assertion-F.Imp a b) (rolls-Imp a b)

  pub Holds-Iff : (a b : Assertion) (e : Environment) → Holds types s says (assertion.Iff a b) e ↔ (Holds types s says a e ↔ Holds types s says b e)
  Holds-Iff a b = at_form (assertion.Iff a b) (Assertion-F.Iff a b) (rolls-Iff a b)

  pub Holds-Ex : (ty : TypeId) (a : Assertion) (e : Environment) → Holds types s says (assertion.Ex ty a) e ↔
      ((c : CellId) × IsOfType s ty c × Holds types s says a (under (value.Cell (Some c)) e))
  Holds-Ex ty a = at_form (assertion.Ex ty a) (Assertion-F.Ex ty a) (rolls-Ex ty a)

  pub Holds-All : (ty : TypeId) (a : Assertion) (e : Environment) → Holds types s says (assertion.All ty a) e ↔
      ((c : CellId) → IsOfType s ty c → Holds types s says a (under (value.Cell (Some c)) e))
  Holds-All ty a = at_form (assertion.All ty a) (Assertion-F.All ty a) (rolls-All ty a)

  pub Holds-ExSet : (ty : TypeId) (a : Assertion) (e : Environment) → Holds types s says (assertion.ExSet ty a) e ↔
      ((cells : List CellId) × IsSetOf s ty cells × Holds types s says a (under (value.Cells cells) e))
  Holds-ExSet ty a = at_form (assertion.ExSet ty a) (Assertion-F.ExSet ty a) (rolls-ExSet ty a)

  pub Holds-AllSet : (ty : TypeId) (a : Assertion) (e : Environment) → Holds types s says (assertion.AllSet ty a) e ↔
      ((cells : List CellId) → IsSetOf s ty cells → Holds types s says a (under (value.Cells cells) e))
  Holds-AllSet ty a = at_form (assertion.AllSet ty a) (Assertion-F.AllSet ty a) (rolls-AllSet ty a)
