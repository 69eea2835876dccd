-- What holds of satisfaction, as facts to take apart.
use Rattle.std.specs.Prelude.{◌≡◌, ◌↔◌, ◌⊎◌, ℕ, IsTrue, IsSomeAnd, List, map, reverse, Some, Contains}
use Rattle.store_core.specs.declared.ids.TypeId.{TypeId}
use Rattle.store_core.specs.declared.ids.VariantId.{VariantId}
use Rattle.store_core.specs.declared.ids.CellId.{CellId}
use Rattle.store_core.specs.declared.kind.Route.{Route}
use Rattle.store_core.specs.declared.value.Value.TheVariants as value
use Rattle.store_core.specs.Tables.{TypeEntry}
use Rattle.store_core.specs.Stores.{StoreMap, IsLive}
use Rattle.routing_walks.specs.Walks.{DataAndPointers, Walk, IsOfType, IsOfVariant}
use Rattle.store_logic.specs.declared.term.Base.{Base}
use Rattle.store_logic.specs.declared.term.Term.{Term}
use Rattle.store_logic.specs.declared.arg.Arg.{Arg}
use Rattle.store_logic.specs.declared.assertion.Assertion.{Assertion}
use Rattle.store_logic.specs.declared.assertion.Assertion.TheVariants as assertion
use Rattle.store_logic.specs.declared.pred.PredDef.{PredDef}
use Rattle.store_logic.specs.Terms.{Environment, under, cell_at, truth_at, set_at, arg_value}
use Rattle.store_logic.specs.Satisfaction.{IsSetOf, Says, SatAll}

-- an assertion is satisfied on all cells by the cases of its form
pub record GoesByCases (types : List TypeEntry) (preds : List PredDef) (s : StoreMap) : Type 0 where
  pub true_ : (e : Environment) → SatAll types preds s e assertion.True
  pub false_ : (e : Environment) → SatAll types preds s e assertion.False → ⊥
  pub truth : (t : Term) (e : Environment) → SatAll types preds s e (assertion.Truth t) ↔ IsTrue (truth_at s e t)
  pub is : (t : Term) (v : VariantId) (e : Environment) → SatAll types preds s e (assertion.Is t v) ↔ IsSomeAnd (cell_at s e t) (IsOfVariant s v)
  pub same : (t u : Term) (e : Environment) → SatAll types preds s e (assertion.Same t u) ↔ (cell_at s e t ≡ cell_at s e u)
  pub member : (t : Term) (set : Base) (e : Environment) → SatAll types preds s e (assertion.Member t set) ↔
      IsSomeAnd (cell_at s e t) (Contains (set_at s e set))
  pub subset : (set other : Base) (e : Environment) → SatAll types preds s e (assertion.Subset set other) ↔
      ((c : CellId) → IsLive s c → Contains (set_at s e set) c → Contains (set_at s e other) c)
  pub walk : (t : Term) (along : Route) (u : Term) (e : Environment) → SatAll types preds s e (assertion.Walk t along u) ↔
      IsSomeAnd (cell_at s e t) (λ from. IsSomeAnd (cell_at s e u) (λ to. Walk types s DataAndPointers along from to))
  pub pred : (k : ℕ) (args : List Arg) (e : Environment) → SatAll types preds s e (assertion.Pred k args) ↔
      Says types s (reverse preds) k (map (arg_value s e) args)
  pub negation : (a : Assertion) (e : Environment) → SatAll types preds s e (assertion.Not a) ↔ (SatAll types preds s e a → ⊥)
  pub conjunction : (a b : Assertion) (e : Environment) → SatAll types preds s e (assertion.And a b) ↔
      (SatAll types preds s e a × SatAll types preds s e b)
  pub disjunction : (a b : Assertion) (e : Environment) → SatAll types preds s e (assertion.Or a b) ↔
      (SatAll types preds s e a ⊎ SatAll types preds s e b)
  pub implication : (a b : Assertion) (e : Environment) → SatAll types preds s e (assertion.Imp a b) ↔
      (SatAll types preds s e a → SatAll types preds s e b)
  pub equivalence : (a b : Assertion) (e : Environment) → SatAll types preds s e (assertion.Iff a b) ↔
      (SatAll types preds s e a ↔ SatAll types preds s e b)
  pub some_cell : (ty : TypeId) (a : Assertion) (e : Environment) → SatAll types preds s e (assertion.Ex ty a) ↔
      ((c : CellId) × IsOfType s ty c × SatAll types preds s (under (value.Cell (Some c)) e) a)
  pub all_cells : (ty : TypeId) (a : Assertion) (e : Environment) → SatAll types preds s e (assertion.All ty a) ↔
      ((c : CellId) → IsOfType s ty c → SatAll types preds s (under (value.Cell (Some c)) e) a)
  pub some_set : (ty : TypeId) (a : Assertion) (e : Environment) → SatAll types preds s e (assertion.ExSet ty a) ↔
      ((cells : List CellId) × IsSetOf s ty cells × SatAll types preds s (under (value.Cells cells) e) a)
  pub all_sets : (ty : TypeId) (a : Assertion) (e : Environment) → SatAll types preds s e (assertion.AllSet ty a) ↔
      ((cells : List CellId) → IsSetOf s ty cells → SatAll types preds s (under (value.Cells cells) e) a)
