-- What is known at a return: what a callee's run leaves of the cells that it was handed, and which variables were set to null or false.
use Rattle.std.specs.Prelude.{◌≡◌, ◌<◌, ◌≤◌, List, All, Contains, IsSomeAnd}
use Rattle.std.specs.List.{AllByRecursion}
use Rattle.store_core.specs.declared.ids.TypeId.{TypeId}
use Rattle.store_core.specs.declared.ids.VarId.{VarId}
use Rattle.store_core.specs.declared.ids.CellId.{CellId}
use Rattle.store_core.specs.Stores.{StoreMap, IsLive, var_value}
use Rattle.routing_walks.specs.Walks.{IsOfType}
use Rattle.store_exec.specs.Steps.{variable}
use Rattle.store_exec.specs.Restricted.{live_part}
use Rattle.store_exec.specs.Failing.{IsBlank}

-- t came of a run on these cells of r: new cells have numbers that r never used, and a cell with an older number is one of the set and
-- of the type that it was of
pub record CameOf (r : StoreMap) (cells : List CellId) (t : StoreMap) : Type 0 where
  pub later : r.next ≤ t.next
  pub handed : (c : CellId) → IsLive t c → c.0 < r.next → Contains cells c
  pub kept : (c : CellId) (ty : TypeId) → IsLive t c → c.0 < r.next → IsOfType r ty c → IsOfType t ty c

-- these variables are null or false
abbrev pub AreBlank : StoreMap → List VarId → Type 0
AreBlank s vars = All (λ v. IsSomeAnd (var_value s v) IsBlank) vars

-- these logic variables hold in t what they held in h, restricted to the live cells
abbrev pub KeepsLogic : List VarId → StoreMap → StoreMap → Type 0
KeepsLogic logics h t = AllByRecursion (λ v. variable t v ≡ live_part t (variable h v)) logics
