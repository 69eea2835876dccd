-- Which cells paths of data fields reach from data variables.
use Rattle.std.specs.Prelude.{List}
use Rattle.store_core.specs.declared.ids.VarId.{VarId}
use Rattle.store_core.specs.declared.ids.CellId.{CellId}
use Rattle.store_core.specs.Tables.{TypeEntry, VarEntry}
use Rattle.store_core.specs.Stores.{StoreMap, IsLive}
use Rattle.routing_walks.specs.WellFormed.{IsInTree}
use Rattle.routing_walks.specs.Regions.{IsReachedFrom}

-- some data variable's tree has the cell
pub record IsInSomeTree (types : List TypeEntry) (vars : List VarEntry) (s : StoreMap) (c : CellId) : Type 0 where
  pub var : VarId
  pub in_tree : IsInTree types vars s var c

-- the cell is live, and no path of data fields reaches it from these data variables
pub record IsUnreached (types : List TypeEntry) (vars : List VarEntry) (s : StoreMap) (roots : List VarId) (c : CellId) : Type 0 where
  pub live : IsLive s c
  pub unreached : IsReachedFrom types vars s roots c → ⊥
