-- When a store is a backbone and when it is well-formed, what can be wrong with it, and which fault comes first. (Klarlund
-- and Schwartzbach, POPL 1993, "graph types".)
use Rattle.std.specs.Prelude.{◌≡◌, ◌≢◌, ◌<◌, ◌⊎◌, List, Option, Some, None, IsSome, IsSomeAnd, IfSome, All, Any}
use Rattle.store_core.specs.declared.ids.TypeId.{TypeId}
use Rattle.store_core.specs.declared.ids.FieldId.{FieldId}
use Rattle.store_core.specs.declared.ids.VarId.{VarId}
use Rattle.store_core.specs.declared.ids.CellId.{CellId}
use Rattle.store_core.specs.declared.kind.FieldKind.{FieldKind}
use Rattle.store_core.specs.declared.kind.FieldKind.TheVariants as field
use Rattle.store_core.specs.declared.kind.VarKind.{VarKind}
use Rattle.store_core.specs.declared.kind.VarKind.TheVariants as var
use Rattle.store_core.specs.declared.value.Value.{Value}
use Rattle.store_core.specs.declared.value.Value.TheVariants as value
use Rattle.store_core.specs.Tables.{TypeEntry, VarEntry, field_at, var_at}
use Rattle.store_core.specs.Stores.{StoreMap, cell_of, field_value, var_value, IsLive, Fits}
use Rattle.routing_walks.specs.declared.fault.Place.{Place}
use Rattle.routing_walks.specs.declared.fault.Place.TheVariants as place
use Rattle.routing_walks.specs.declared.fault.WfFault.{WfFault}
use Rattle.routing_walks.specs.declared.fault.WfFault.TheVariants as fault
use Rattle.routing_walks.specs.Walks.{DataAlone, IsFollowed, IsParent, IsOfType, Chain}
use Rattle.routing_walks.specs.Destinations.{Dest, IsOnlyDestination, IsPointer}

-- ---- places

-- the value at a place: of a variable, or of a field that a live cell has
abbrev pub value_at : StoreMap → Place → Option Value
value_at s (place.Var v) = var_value s v
value_at s (place.Field c f) = field_value s c f

-- a value stands at the place
abbrev pub IsThere : StoreMap → Place → Type 0
IsThere s p = IsSome (value_at s p)

-- a data variable
abbrev pub IsDataVar : VarKind → Type 0
IsDataVar var.Bool = ⊥
IsDataVar (var.Data target) = Unit {0}
IsDataVar (var.Pointer target) = ⊥
IsDataVar (var.LogicSet target) = ⊥
IsDataVar var.LogicBool = ⊥

-- the place is a data variable or a data field
abbrev pub IsDataPlace : List TypeEntry → List VarEntry → Place → Type 0
IsDataPlace types vars (place.Var v) = IsSomeAnd (var_at vars v) (λ entry. IsDataVar entry.kind)
IsDataPlace types vars (place.Field c f) = IsSomeAnd (field_at types f) (λ entry. IsFollowed DataAlone entry.kind)

-- a data variable, or a data field of a live cell, names the cell
pub record Names (types : List TypeEntry) (vars : List VarEntry) (s : StoreMap) (p : Place) (c : CellId) : Type 0 where
  pub place : IsDataPlace types vars p
  pub value : value_at s p ≡ Some (value.Cell (Some c))

-- a path of data fields leads from the cell that the data variable names to c
pub record IsInTree (types : List TypeEntry) (vars : List VarEntry) (s : StoreMap) (v : VarId) (c : CellId) : Type 0 where
  pub root : CellId
  pub named : Names types vars s (place.Var v) root
  pub path : Chain s (IsParent types s) root c

-- ---- what can be wrong

-- the value names a dead cell
abbrev pub NamesDead : StoreMap → Value → Type 0
NamesDead s (value.Bool truth) = ⊥
NamesDead s (value.Cell c) = IsSomeAnd c (λ cell. cell_of s cell ≡ None)
NamesDead s (value.Cells cells) = ⊥

-- the value is a set that holds a dead cell
abbrev pub HoldsDead : StoreMap → Value → Type 0
HoldsDead s (value.Bool truth) = ⊥
HoldsDead s (value.Cell c) = ⊥
HoldsDead s (value.Cells cells) = Any (λ cell. cell_of s cell ≡ None) cells

-- a variable or a field of a live cell names a dead cell: `dangling-ref` at a cut
abbrev pub IsDanglingReference : StoreMap → Place → Type 0
IsDanglingReference s p = IsSomeAnd (value_at s p) (NamesDead s)

-- the same, or a logic set holds a dead cell
abbrev pub IsDangling : StoreMap → Place → Type 0
IsDangling s p = IsDanglingReference s p ⊎ IsSomeAnd (value_at s p) (HoldsDead s)

-- a live cell is named twice by data variables and data fields of live cells: `shared` at a cut
pub record IsShared (types : List TypeEntry) (vars : List VarEntry) (s : StoreMap) (c : CellId) : Type 0 where
  pub live : IsLive s c
  pub one : Place
  pub other : Place
  pub apart : one ≢ other
  pub by_one : Names types vars s one c
  pub by_other : Names types vars s other c

-- a live cell isn't reached from a data variable by data fields: `leak` at a cut
pub record IsLeaked (types : List TypeEntry) (vars : List VarEntry) (s : StoreMap) (c : CellId) : Type 0 where
  pub live : IsLive s c
  pub unreached : (v : VarId) → IsInTree types vars s v c → ⊥

-- a pointer field isn't its only destination, or null where there is none: `field` at a cut
pub record IsWrongField (types : List TypeEntry) (s : StoreMap) (c : CellId) (f : FieldId) : Type 0 where
  pub kind : IsSomeAnd (field_at types f) (λ entry. IsPointer entry.kind)
  pub wrong : IsSomeAnd (field_value s c f) (λ x. IsOnlyDestination types s c f x → ⊥)

-- if the field is a pointer field that the cell has, it is its only destination, or null where there is none
abbrev pub IsRightField : List TypeEntry → StoreMap → CellId → FieldId → Type 0
IsRightField types s c f = IsSomeAnd (field_at types f) (λ entry. IsPointer entry.kind) → IfSome (field_value s c f) (IsOnlyDestination types s c f)

-- ---- backbones and well-formed stores

-- null or a live cell of the type
abbrev pub HoldsOfType : StoreMap → TypeId → Value → Type 0
HoldsOfType s target (value.Bool truth) = ⊥
HoldsOfType s target (value.Cell c) = IfSome c (IsOfType s target)
HoldsOfType s target (value.Cells cells) = ⊥

-- a data or pointer variable holds null or a live cell of its type, a logic set live cells of its type
abbrev pub VarHoldsLive : StoreMap → VarKind → Value → Type 0
VarHoldsLive s var.Bool x = Unit {0}
VarHoldsLive s (var.Data target) x = HoldsOfType s target x
VarHoldsLive s (var.Pointer target) x = HoldsOfType s target x
VarHoldsLive s (var.LogicSet target) x = Unit {0}
VarHoldsLive s var.LogicBool x = Unit {0}

-- a data field holds null or a live cell of its type
abbrev pub FieldHoldsLive : StoreMap → FieldKind → Value → Type 0
FieldHoldsLive s field.Bool x = Unit {0}
FieldHoldsLive s (field.Data target) x = HoldsOfType s target x
FieldHoldsLive s (field.Pointer target along) x = Unit {0}

-- every cell variable and data field holds null or a live cell of its type, no live cell is named twice by data variables
-- and data fields, and every live cell ends a path of data fields from a data variable
pub record IsBackbone (types : List TypeEntry) (vars : List VarEntry) (s : StoreMap) : Type 0 where
  pub cell_vars : (v : VarId) → IfSome (var_at vars v) (λ entry. IfSome (var_value s v) (VarHoldsLive s entry.kind))
  pub data_fields : (c : CellId) (f : FieldId) → IfSome (field_at types f) (λ entry. IfSome (field_value s c f) (FieldHoldsLive s entry.kind))
  pub named_once : (c : CellId) (p q : Place) → IsLive s c → Names types vars s p c → Names types vars s q c → p ≡ q
  pub reached : (c : CellId) → IsLive s c → (v : VarId) × IsInTree types vars s v c

-- a logic set holds live cells of its type
abbrev pub SetHoldsLive : StoreMap → VarKind → Value → Type 0
SetHoldsLive s (var.LogicSet target) (value.Cells cells) = All (IsOfType s target) cells
SetHoldsLive s (var.LogicSet target) _ = ⊥
SetHoldsLive s _ x = Unit {0}

-- the store fits its tables, is a backbone, every pointer field that a live cell has holds the only destination of its cell,
-- or null where there is none, and every logic set holds live cells of its type
pub record IsWellFormed (types : List TypeEntry) (vars : List VarEntry) (s : StoreMap) : Type 0 where
  pub fits : Fits types vars s
  pub backbone : IsBackbone types vars s
  pub pointers : (c : CellId) (f : FieldId) → IsSomeAnd (field_at types f) (λ entry. IsPointer entry.kind) →
      IfSome (field_value s c f) (IsOnlyDestination types s c f)
  pub sets : (v : VarId) → IfSome (var_at vars v) (λ entry. IfSome (var_value s v) (SetHoldsLive s entry.kind))

-- on every backbone, over every variable table, each cell that has the field has at most one destination for it
pub record IsFunctional (types : List TypeEntry) (f : FieldId) : Type 0 where
  pub at_most_one : (vars : List VarEntry) (s : StoreMap) → Fits types vars s → IsBackbone types vars s →
      (c d e : CellId) → IsSomeAnd (field_value s c f) (λ x. Unit {0}) → Dest types s c f d → Dest types s c f e → d ≡ e

-- ---- the first fault

-- variables in order, then cells by number, then fields in order
abbrev pub ComesBefore : Place → Place → Type 0
ComesBefore (place.Var v) (place.Var w) = v.0 < w.0
ComesBefore (place.Var v) (place.Field d g) = Unit {0}
ComesBefore (place.Field c f) (place.Var w) = ⊥
ComesBefore (place.Field c f) (place.Field d g) = (c.0 < d.0) ⊎ ((c.0 ≡ d.0) × (f.index < g.index))

-- the first place where this is so
pub record IsFirstPlace (IsSo : Place → Type 0) (p : Place) : Type 0 where
  pub here : IsSo p
  pub before : (q : Place) → ComesBefore q p → IsSo q → ⊥

-- the cell with the least number of which this is so
pub record IsFirstCell (IsSo : CellId → Type 0) (c : CellId) : Type 0 where
  pub here : IsSo c
  pub before : (d : CellId) → d.0 < c.0 → IsSo d → ⊥

-- the same of a place that is a field
abbrev pub IsWrongPlace : List TypeEntry → StoreMap → Place → Type 0
IsWrongPlace types s (place.Var v) = ⊥
IsWrongPlace types s (place.Field c f) = IsWrongField types s c f

-- the fault is the first in the order Dangling, Shared, Leak, Field
abbrev pub IsFirstFault : List TypeEntry → List VarEntry → StoreMap → WfFault → Type 0
IsFirstFault types vars s (fault.Dangling p) = IsFirstPlace (IsDangling s) p
IsFirstFault types vars s (fault.Shared c) = ((p : Place) → IsDangling s p → ⊥) × IsFirstCell (IsShared types vars s) c
IsFirstFault types vars s (fault.Leak c) = ((p : Place) → IsDangling s p → ⊥) × ((d : CellId) → IsShared types vars s d → ⊥)
    × IsFirstCell (IsLeaked types vars s) c
IsFirstFault types vars s (fault.Field c f) = ((p : Place) → IsDangling s p → ⊥) × ((d : CellId) → IsShared types vars s d → ⊥)
    × ((d : CellId) → IsLeaked types vars s d → ⊥) × IsFirstPlace (IsWrongPlace types s) (place.Field c f)
