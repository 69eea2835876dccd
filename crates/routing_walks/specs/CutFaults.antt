-- The four conditions of a store at a cut, and which of them comes first. A logic set that holds a dead cell is no fault there.
use Rattle.std.specs.Prelude.{List, IsSomeAnd, IfSome}
use Rattle.store_core.specs.declared.ids.FieldId.{FieldId}
use Rattle.store_core.specs.declared.ids.CellId.{CellId}
use Rattle.store_core.specs.Tables.{TypeEntry, VarEntry, field_at}
use Rattle.store_core.specs.Stores.{StoreMap, field_value}
use Rattle.routing_walks.specs.declared.fault.Place.{Place}
use Rattle.routing_walks.specs.declared.fault.CutFault.{CutFault}
use Rattle.routing_walks.specs.declared.fault.CutFault.TheVariants as fault
use Rattle.routing_walks.specs.Destinations.{IsOnlyDestination, IsPointer}
use Rattle.routing_walks.specs.WellFormed.{IsDanglingReference, IsShared, IsLeaked, IsWrongField, IsBackbone}

-- a variable, or a field of a live cell, names a dead cell
pub record HasDanglingReference (s : StoreMap) : Type 0 where
  pub place : Place
  pub dangling : IsDanglingReference s place

-- a live cell is named twice by data variables and data fields
pub record HasShared (types : List TypeEntry) (vars : List VarEntry) (s : StoreMap) : Type 0 where
  pub cell : CellId
  pub shared : IsShared types vars s cell

-- a live cell isn't reached from a data variable by data fields
pub record HasLeaked (types : List TypeEntry) (vars : List VarEntry) (s : StoreMap) : Type 0 where
  pub cell : CellId
  pub leaked : IsLeaked types vars s cell

-- a pointer field of a live cell isn't its only destination, or null where there is none
pub record HasWrongField (types : List TypeEntry) (s : StoreMap) : Type 0 where
  pub cell : CellId
  pub field : FieldId
  pub wrong : IsWrongField types s cell field

-- the condition holds, and none that comes before it
abbrev pub IsFirstCutFault : List TypeEntry → List VarEntry → StoreMap → CutFault → Type 0
IsFirstCutFault types vars s fault.DanglingReference = HasDanglingReference s
IsFirstCutFault types vars s fault.Shared = (HasDanglingReference s → ⊥) × HasShared types vars s
IsFirstCutFault types vars s fault.Leak = (HasDanglingReference s → ⊥) × (HasShared types vars s → ⊥) × HasLeaked types vars s
IsFirstCutFault types vars s fault.Field =
    (HasDanglingReference s → ⊥) × (HasShared types vars s → ⊥) × (HasLeaked types vars s → ⊥) × HasWrongField types s

-- none of the four holds: the store is a backbone, and every pointer field that a live cell has holds its only destination, or
-- null where there is none
pub record IsSound (types : List TypeEntry) (vars : List VarEntry) (s : StoreMap) : Type 0 where
  pub backbone : IsBackbone types vars s
  pub pointers : (c : CellId) (f : FieldId) → IsSomeAnd (field_at types f) (λ entry. IsPointer entry.kind) →
      IfSome (field_value s c f) (IsOnlyDestination types s c f)
