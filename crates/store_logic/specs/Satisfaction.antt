-- When a store satisfies an assertion, on all its cells and on a region. (Møller and Schwartzbach, PLDI 2001, "pointer assertion
-- logic"; monadic second-order logic over the cells of a store.)
use Rattle.std.specs.Prelude.{◌≡◌, ◌↔◌, ◌⊎◌, ◌==◌, ℕ, IsTrue, IsSomeAnd, List, [], ◌∷◌, map, length, reverse, Some, Contains}
use Rattle.std.specs.Prelude.{MatchBool}
use Rattle.std.specs.List.{AllByRecursion}
use Rattle.store_core.specs.declared.ids.TypeId.{TypeId}
use Rattle.store_core.specs.declared.ids.CellId.{CellId}
use Rattle.store_core.specs.declared.value.Value.{Value}
use Rattle.store_core.specs.declared.value.Value.TheVariants as value
use Rattle.store_core.specs.CellLists.{AreRising}
use Rattle.store_core.specs.Tables.{TypeEntry, VarEntry}
use Rattle.store_core.specs.Stores.{StoreMap, IsLive}
use Rattle.routing_walks.specs.Walks.{DataAndPointers, Walk, IsOfType, IsOfVariant}
use Rattle.routing_walks.specs.Regions.{store_on}
use Rattle.store_logic.specs.declared.assertion.Assertion.{Assertion}
use Rattle.store_logic.specs.declared.assertion.Assertion.TheOpen.{Assertion-F}
use Rattle.store_logic.specs.declared.assertion.Assertion.TheFolds.{rec-Assertion}
use Rattle.store_logic.specs.declared.pred.PredDef.{PredDef}
use Rattle.store_logic.specs.declared.region.Region.{Region}
use Rattle.store_logic.specs.declared.region.Region.TheVariants as region
use Rattle.store_logic.specs.Terms.{Environment, under, given, cell_at, truth_at, set_at, arg_value}
use Rattle.store_logic.specs.Regions.{IsRegion}

-- the cells are a finite set of live cells of the type, in rising order, so that each set is one list
pub record IsSetOf (s : StoreMap) (ty : TypeId) (cells : List CellId) : Type 0 where
  pub rising : AreRising cells
  pub members : AllByRecursion (IsOfType s ty) cells

-- one form holds on all cells of the store, by when its parts do and by what predicates say of their arguments
abbrev pub HoldsNode : List TypeEntry → StoreMap → (ℕ → List Value → Type 0) →
    (Part : Type 0) → (Part → Assertion) → (Part → Environment → Type 0) → Assertion-F Part → Environment → Type 0
HoldsNode types s says Part whole holds Assertion-F.True e = Unit {0}
HoldsNode types s says Part whole holds Assertion-F.False e = ⊥
HoldsNode types s says Part whole holds (Assertion-F.Truth t) e = IsTrue (truth_at s e t)
HoldsNode types s says Part whole holds (Assertion-F.Is t v) e = IsSomeAnd (cell_at s e t) (IsOfVariant s v)
HoldsNode types s says Part whole holds (Assertion-F.Same t u) e = cell_at s e t ≡ cell_at s e u
HoldsNode types s says Part whole holds (Assertion-F.Member t set) e = IsSomeAnd (cell_at s e t) (Contains (set_at s e set))
HoldsNode types s says Part whole holds (Assertion-F.Subset set other) e =
    (c : CellId) → IsLive s c → Contains (set_at s e set) c → Contains (set_at s e other) c
HoldsNode types s says Part whole holds (Assertion-F.Walk t along u) e =
    IsSomeAnd (cell_at s e t) (λ a. IsSomeAnd (cell_at s e u) (λ b. Walk types s DataAndPointers along a b))
HoldsNode types s says Part whole holds (Assertion-F.Pred k args) e = says k (map (arg_value s e) args)
HoldsNode types s says Part whole holds (Assertion-F.Not a) e = holds a e → ⊥
HoldsNode types s says Part whole holds (Assertion-F.And a b) e = holds a e × holds b e
HoldsNode types s says Part whole holds (Assertion-F.Or a b) e = holds a e ⊎ holds b e
HoldsNode types s says Part whole holds (Assertion-F.Imp a b) e = holds a e → holds b e
HoldsNode types s says Part whole holds (Assertion-F.Iff a b) e = holds a e ↔ holds b e
HoldsNode types s says Part whole holds (Assertion-F.Ex ty a) e =
    (c : CellId) × IsOfType s ty c × holds a (under (value.Cell (Some c)) e)
HoldsNode types s says Part whole holds (Assertion-F.All ty a) e =
    (c : CellId) → IsOfType s ty c → holds a (under (value.Cell (Some c)) e)
HoldsNode types s says Part whole holds (Assertion-F.ExSet ty a) e =
    (cells : List CellId) × IsSetOf s ty cells × holds a (under (value.Cells cells) e)
HoldsNode types s says Part whole holds (Assertion-F.AllSet ty a) e =
    (cells : List CellId) → IsSetOf s ty cells → holds a (under (value.Cells cells) e)

-- the assertion holds on all cells of the store, by what predicates say of their arguments
abbrev pub Holds : List TypeEntry → StoreMap → (ℕ → List Value → Type 0) → Assertion → Environment → Type 0
Holds types s says = rec-Assertion (Environment → Type 0) (HoldsNode types s says)

-- what the predicates of a list, the last of them first, say of their arguments: each says its body, read by means of those
-- before it
abbrev pub Says : List TypeEntry → StoreMap → List PredDef → ℕ → List Value → Type 0
Says types s [] k args = ⊥
Says types s (p ∷ earlier) k args =
    MatchBool (k == length earlier) (Holds types s (Says types s earlier) p.body (given args)) (Says types s earlier k args)

-- the store satisfies the assertion on all its cells
abbrev pub SatAll : List TypeEntry → List PredDef → StoreMap → Environment → Assertion → Type 0
SatAll types preds s e a = Holds types s (Says types s (reverse preds)) a e

-- the store satisfies the assertion on the region: the store with the region's cells alone does, so that a value outside the
-- region counts as null
abbrev pub Sat : List TypeEntry → List VarEntry → List PredDef → StoreMap → Region → Environment → Assertion → Type 0
Sat types vars preds s region.All e a = SatAll types preds s e a
Sat types vars preds s (region.Part roots) e a =
    (cells : List CellId) × IsRegion types vars s (region.Part roots) cells × SatAll types preds (store_on s cells) e a
Sat types vars preds s (region.Rest roots) e a =
    (cells : List CellId) × IsRegion types vars s (region.Rest roots) cells × SatAll types preds (store_on s cells) e a
