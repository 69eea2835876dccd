-- The path to a cell: a data variable, then data fields.
use Rattle.std.specs.Prelude.{◌≡◌, List, [], ◌∷◌}
use Rattle.store_core.specs.declared.ids.FieldId.{FieldId}
use Rattle.store_core.specs.declared.ids.VarId.{VarId}
use Rattle.store_core.specs.declared.ids.CellId.{CellId}
use Rattle.store_core.specs.Tables.{TypeEntry, VarEntry}
use Rattle.store_core.specs.Stores.{StoreMap, IsLive}
use Rattle.routing_walks.specs.declared.fault.Place.TheVariants as place
use Rattle.routing_walks.specs.Walks.{DataAlone, Leads, Stays}
use Rattle.routing_walks.specs.WellFormed.{Names}

-- these data fields, one after the other, lead from a to b
abbrev pub LeadsAlong : List TypeEntry → StoreMap → List FieldId → CellId → CellId → Type 0
LeadsAlong types s [] a b = Stays (IsLive s) a b
LeadsAlong types s (f ∷ fields) a b = (next : CellId) × Leads types s DataAlone f a next × LeadsAlong types s fields next b

-- the cell stands at the path: the fields lead to it from the cell that the data variable names
pub record StandsAt (types : List TypeEntry) (vars : List VarEntry) (s : StoreMap) (v : VarId) (fields : List FieldId) (c : CellId) : Type 0 where
  pub root : CellId
  pub named : Names types vars s (place.Var v) root
  pub along : LeadsAlong types s fields root c

-- the cell stands at one path and at no other
pub record HasOnePath (types : List TypeEntry) (vars : List VarEntry) (s : StoreMap) (c : CellId) : Type 0 where
  pub var : VarId
  pub fields : List FieldId
  pub at : StandsAt types vars s var fields c
  pub only : (v : VarId) (others : List FieldId) → StandsAt types vars s v others c → (v ≡ var) × (others ≡ fields)

-- the cell stands at a path that begins with the variable
pub record HasPath (types : List TypeEntry) (vars : List VarEntry) (s : StoreMap) (v : VarId) (c : CellId) : Type 0 where
  pub fields : List FieldId
  pub at : StandsAt types vars s v fields c
