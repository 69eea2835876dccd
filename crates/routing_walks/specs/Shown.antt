-- What shows that a store isn't well-formed.
use Rattle.std.specs.Prelude.{◌≢◌, ◌⊎◌, List, Some, None, Contains}
use Rattle.store_core.specs.declared.ids.FieldId.{FieldId}
use Rattle.store_core.specs.declared.ids.VarId.{VarId}
use Rattle.store_core.specs.declared.ids.CellId.{CellId}
use Rattle.store_core.specs.declared.value.Value.{Value}
use Rattle.store_core.specs.declared.value.Value.TheVariants as value
use Rattle.store_core.specs.CellLists.{AreRising}
use Rattle.store_core.specs.Tables.{TypeEntry, VarEntry}
use Rattle.store_core.specs.Stores.{StoreMap, IsLive}
use Rattle.routing_walks.specs.declared.fault.Place.{Place}
use Rattle.routing_walks.specs.declared.fault.Place.TheVariants as place
use Rattle.routing_walks.specs.Destinations.{Dest}
use Rattle.routing_walks.specs.WellFormed.{Names, IsDangling, IsDanglingReference, IsShared, IsLeaked, IsWrongField}
use Rattle.routing_walks.specs.Regions.{IsClosedUnderFields}

-- something is wrong with the store, of one of the four kinds
pub data HasFault (types : List TypeEntry) (vars : List VarEntry) (s : StoreMap) : Type 0 where
  dangling : (p : Place) → IsDangling s p → HasFault types vars s
  shared : (c : CellId) → IsShared types vars s c → HasFault types vars s
  leaked : (c : CellId) → IsLeaked types vars s c → HasFault types vars s
  wrong : (c : CellId) (f : FieldId) → IsWrongField types s c f → HasFault types vars s

-- the same at a cut, where a logic set may hold dead cells: `dangling-ref`, `shared`, `leak` or `field`
pub data HasCause (types : List TypeEntry) (vars : List VarEntry) (s : StoreMap) : Type 0 where
  at_reference : (p : Place) → IsDanglingReference s p → HasCause types vars s
  at_shared : (c : CellId) → IsShared types vars s c → HasCause types vars s
  at_leak : (c : CellId) → IsLeaked types vars s c → HasCause types vars s
  at_field : (c : CellId) (f : FieldId) → IsWrongField types s c f → HasCause types vars s

-- the set shows that the cell leaks: it has each live cell that a data variable names, it is closed under data fields, and it
-- hasn't the cell, which is live
pub record ShowsLeak (types : List TypeEntry) (vars : List VarEntry) (s : StoreMap) (cells : List CellId) (c : CellId) : Type 0 where
  pub live : IsLive s c
  pub rising : AreRising cells
  pub roots : (v : VarId) (root : CellId) → IsLive s root → Names types vars s (place.Var v) root → Contains cells root
  pub closed : IsClosedUnderFields types s cells
  pub without : Contains cells c → ⊥

-- some set shows that the cell leaks
pub record HasLeakSet (types : List TypeEntry) (vars : List VarEntry) (s : StoreMap) (c : CellId) : Type 0 where
  pub cells : List CellId
  pub shows : ShowsLeak types vars s cells c

-- a destination of the cell other than this one
pub record HasOther (types : List TypeEntry) (s : StoreMap) (c : CellId) (f : FieldId) (d : CellId) : Type 0 where
  pub other : CellId
  pub apart : other ≢ d
  pub dest : Dest types s c f other

-- some destination of the cell
pub record HasDest (types : List TypeEntry) (s : StoreMap) (c : CellId) (f : FieldId) : Type 0 where
  pub cell : CellId
  pub dest : Dest types s c f cell

-- what shows that the value isn't the only destination, or null where there is none: a destination where it is null; and
-- where it is a cell, that this cell is none, or another one; a truth value and a set never are
abbrev pub ShowsWrong : List TypeEntry → StoreMap → CellId → FieldId → Value → Type 0
ShowsWrong types s c f (value.Bool truth) = Unit {0}
ShowsWrong types s c f (value.Cell None) = HasDest types s c f
ShowsWrong types s c f (value.Cell (Some d)) = (Dest types s c f d → ⊥) ⊎ HasOther types s c f d
ShowsWrong types s c f (value.Cells cells) = Unit {0}
