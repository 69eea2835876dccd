-- What a search from data variables along the data fields has reached.
use Rattle.std.specs.Prelude.{◌≡◌, ◌⊎◌, ◌+◌, ℕ, List, length, Contains}
use Rattle.store_core.specs.declared.ids.VarId.{VarId}
use Rattle.store_core.specs.declared.ids.FieldId.{FieldId}
use Rattle.store_core.specs.declared.ids.CellId.{CellId}
use Rattle.store_core.specs.Tables.{TypeEntry, VarEntry}
use Rattle.store_core.specs.Stores.{StoreMap, IsLive}
use Rattle.routing_walks.specs.declared.fault.Place.TheVariants as place
use Rattle.routing_walks.specs.Walks.{IsParent}
use Rattle.routing_walks.specs.WellFormed.{Names}
use Rattle.routing_walks.specs.Regions.{IsReachedFrom}
use Rattle.routing_walks.specs.Sets.{Has}
use Rattle.routing_expr.specs.declared.reach.Reach.{Reach}

-- one of these data variables names the cell
pub record IsRootCell (types : List TypeEntry) (vars : List VarEntry) (s : StoreMap) (roots : List VarId) (c : CellId) : Type 0 where
  pub var : VarId
  pub listed : Contains roots var
  pub names : Names types vars s (place.Var var) c

-- a data field of the parent names the cell
pub record IsChild (types : List TypeEntry) (vars : List VarEntry) (s : StoreMap) (parent c : CellId) : Type 0 where
  pub field : FieldId
  pub names : Names types vars s (place.Field parent field) c

-- how many cells wait or are not reached
abbrev pub size_of : Reach → ℕ
size_of reach = length reach.left.keys + length reach.waiting.items

-- the cells that are named were reached before or wait now, and no other cell does that did not
pub record Reaches (IsNamed : CellId → Type 0) (old new : Reach) : Type 0 where
  pub was_left : (c : CellId) → Has new.left c → Has old.left c
  pub unnamed : (c : CellId) → Has new.left c → IsNamed c → ⊥
  pub taken : (c : CellId) → Has old.left c → Has new.left c ⊎ Contains new.waiting.items c
  pub waits : (c : CellId) → Contains old.waiting.items c → Contains new.waiting.items c
  pub came : (c : CellId) → Contains new.waiting.items c → Contains old.waiting.items c ⊎ (Has old.left c × IsNamed c)
  pub size : size_of new ≡ size_of old

-- the search is on its way: what is reached is in a tree, and so are its children reached, unless it waits
pub record IsReach (types : List TypeEntry) (vars : List VarEntry) (s : StoreMap) (roots : List VarId) (reach : Reach) : Type 0 where
  pub live : (c : CellId) → Has reach.left c → IsLive s c
  pub waiting : (c : CellId) → Contains reach.waiting.items c → IsReachedFrom types vars s roots c
  pub sound : (c : CellId) → IsLive s c → Has reach.left c ⊎ IsReachedFrom types vars s roots c
  pub closed : (c : CellId) → IsLive s c → Has reach.left c ⊎ (Contains reach.waiting.items c ⊎ ((d : CellId) → IsParent types s c d → Has reach.left d → ⊥))
  pub no_root : (c : CellId) → IsRootCell types vars s roots c → Has reach.left c → ⊥
