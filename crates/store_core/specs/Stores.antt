-- What a store is: a finite map from cell numbers to cells, the variables' values and the next number. When it fits its
-- tables, and when it is fresh.
use Rattle.std.specs.Prelude.{◌≡◌, ℕ, ◌+◌, ◌<◌, ◌==◌, true, false, IsSome, IfSome, List, [], ◌∷◌, map, slice_get, slice_set, Option, Some, None, if◌then◌else◌}
use Rattle.std.specs.Option.{option_map_or, option_and_then}
use Rattle.std.specs.List.{AllByRecursion}
use Rattle.std.specs.Ordering.{nat_cmp}
use Rattle.std.specs.FinMap.{FinMap, get, insert, remove, keys, empty}
use Rattle.store_core.specs.declared.ids.TypeId.{TypeId}
use Rattle.store_core.specs.declared.ids.VariantId.{VariantId}
use Rattle.store_core.specs.declared.ids.FieldId.{FieldId}
use Rattle.store_core.specs.declared.ids.VarId.{VarId}
use Rattle.store_core.specs.declared.ids.CellId.{CellId}
use Rattle.store_core.specs.declared.kind.FieldKind.{FieldKind}
use Rattle.store_core.specs.declared.kind.FieldKind.TheVariants as field
use Rattle.store_core.specs.declared.kind.VarKind.{VarKind}
use Rattle.store_core.specs.declared.kind.VarKind.TheVariants as var
use Rattle.store_core.specs.declared.value.Class.{Class}
use Rattle.store_core.specs.declared.value.Class.TheVariants.{Truth, Reference, Set}
use Rattle.store_core.specs.declared.value.Value.{Value}
use Rattle.store_core.specs.declared.value.Value.TheVariants as value
use Rattle.store_core.specs.Tables.{TypeEntry, FieldEntry, VarEntry, fields_of, is_had, KnowsVariant}
use Rattle.store_core.specs.CellLists.{AreRising}

-- a cell: its variant, and by the number of each field of its type the field's value, none where the variant hasn't it
pub record CellEntry : Type 0 where
  pub variant : VariantId
  pub values : List (Option Value)

-- a store: the live cells by number, the value of each variable, and the number that the next cell gets
pub record StoreMap : Type 0 where
  pub cells : FinMap nat_cmp CellEntry
  pub vars : List Value
  pub next : ℕ

-- ---- what stands in a store

-- the cell with this number, where it is live
abbrev pub cell_of : StoreMap → CellId → Option CellEntry
cell_of s c = get s.cells c.0

-- the cell is live
abbrev pub IsLive : StoreMap → CellId → Type 0
IsLive s c = IsSome (cell_of s c)

-- the value of a cell's field, where the cell's variant has it
abbrev pub field_of : CellEntry → FieldId → Option Value
field_of cell f = if cell.variant.ty.0 == f.ty.0 then option_and_then (λ v. v) (slice_get cell.values f.index) else None

-- the value of a field, where the cell is live and has it
abbrev pub field_value : StoreMap → CellId → FieldId → Option Value
field_value s c f = option_and_then (λ cell. field_of cell f) (cell_of s c)

-- the value of a variable
abbrev pub var_value : StoreMap → VarId → Option Value
var_value s v = slice_get s.vars v.0

-- the next number is above that of every cell
abbrev pub IsAbove : StoreMap → Type 0
IsAbove s = AllByRecursion (λ number. number < s.next) (keys s.cells)

-- ---- the classes of values

-- the class of a value, and of what a field or a variable holds
abbrev pub class_of : Value → Class
class_of (value.Bool b) = Truth
class_of (value.Cell c) = Reference
class_of (value.Cells cells) = Set

abbrev pub field_class : FieldKind → Class
field_class field.Bool = Truth
field_class (field.Data target) = Reference
field_class (field.Pointer target along) = Reference

abbrev pub var_class : VarKind → Class
var_class var.Bool = Truth
var_class (var.Data target) = Reference
var_class (var.Pointer target) = Reference
var_class (var.LogicSet target) = Set
var_class var.LogicBool = Truth

-- false, null or the empty set
abbrev pub blank : Class → Value
blank Truth = value.Bool false
blank Reference = value.Cell None
blank Set = value.Cells []

-- ---- the changes of a store

-- no cell, every variable false, null or empty
abbrev pub empty_store : List VarEntry → StoreMap
empty_store vars = record { cells = empty; vars = map (λ v. blank (var_class v.kind)) vars; next = 1 }

-- the value of a new cell's field: false or null, and none where the variant with this index hasn't the field
abbrev pub blank_slot : ℕ → FieldEntry → Option Value
blank_slot index f = if is_had index f then Some (blank (field_class f.kind)) else None

-- a cell of the variant whose fields are false or null
abbrev pub blank_cell : List TypeEntry → VariantId → CellEntry
blank_cell types v = record {
  variant = v;
  values = map (blank_slot v.index) (fields_of types v.ty);
}

-- the store with a new cell of the variant under the next number
abbrev pub put_cell : StoreMap → List TypeEntry → VariantId → StoreMap
put_cell s types v = record s { cells = insert s.cells s.next (blank_cell types v); next = s.next + 1 }

-- the cell with this value for the field
abbrev pub with_field : CellEntry → FieldId → Value → CellEntry
with_field cell f x = record cell { values = slice_set cell.values f.index (Some x) }

-- the store with this value for the cell's field
abbrev pub set_field : StoreMap → CellId → FieldId → Value → StoreMap
set_field s c f x = record s { cells = option_map_or (λ cell. insert s.cells c.0 (with_field cell f x)) (cell_of s c) s.cells }

-- the store with this value for the variable
abbrev pub set_var : StoreMap → VarId → Value → StoreMap
set_var s v x = record s { vars = slice_set s.vars v.0 x }

-- the store without the cell
abbrev pub remove_cell : StoreMap → CellId → StoreMap
remove_cell s c = record s { cells = remove s.cells c.0 }

-- ---- fitting and fresh stores

-- a reference to a live cell is one to a cell of the type
abbrev pub NamesType : StoreMap → TypeId → CellId → Type 0
NamesType s target c = IfSome (cell_of s c) (λ cell. cell.variant.ty ≡ target)

-- a value of this kind of field, each live cell that it names being of the target type
abbrev pub FieldFits : StoreMap → FieldKind → Value → Type 0
FieldFits s field.Bool (value.Bool b) = Unit {0}
FieldFits s (field.Data target) (value.Cell c) = IfSome c (NamesType s target)
FieldFits s (field.Pointer target along) (value.Cell c) = IfSome c (NamesType s target)
FieldFits s _ _ = ⊥

-- the same for a variable; the members of a set stand in rising order
abbrev pub VarFits : StoreMap → VarKind → Value → Type 0
VarFits s var.Bool (value.Bool b) = Unit {0}
VarFits s (var.Data target) (value.Cell c) = IfSome c (NamesType s target)
VarFits s (var.Pointer target) (value.Cell c) = IfSome c (NamesType s target)
VarFits s (var.LogicSet target) (value.Cells cells) = AreRising cells × AllByRecursion (NamesType s target) cells
VarFits s var.LogicBool (value.Bool b) = Unit {0}
VarFits s _ _ = ⊥

-- a field of a variant's cell has a value of its kind where the variant has it, and else none
abbrev pub SlotFits : StoreMap → ℕ → FieldEntry → Option Value → Type 0
SlotFits s index f None = is_had index f ≡ false
SlotFits s index f (Some x) = (is_had index f ≡ true) × FieldFits s f.kind x

-- one value for each field
abbrev pub SlotsFit : StoreMap → ℕ → List FieldEntry → List (Option Value) → Type 0
SlotsFit s index [] [] = Unit {0}
SlotsFit s index [] (x ∷ xs) = ⊥
SlotsFit s index (f ∷ fs) [] = ⊥
SlotsFit s index (f ∷ fs) (x ∷ xs) = SlotFits s index f x × SlotsFit s index fs xs

-- a cell is of a variant that is there, and its values fit its fields
pub record CellFits (types : List TypeEntry) (s : StoreMap) (cell : CellEntry) : Type 0 where
  pub variant : KnowsVariant types cell.variant
  pub values : SlotsFit s cell.variant.index (fields_of types cell.variant.ty) cell.values

-- one value for each variable
abbrev pub VarsFit : StoreMap → List VarEntry → List Value → Type 0
VarsFit s [] [] = Unit {0}
VarsFit s [] (x ∷ xs) = ⊥
VarsFit s (v ∷ vs) [] = ⊥
VarsFit s (v ∷ vs) (x ∷ xs) = VarFits s v.kind x × VarsFit s vs xs

-- the store fits its tables: every value has the class of its kind, every live cell that a value names is of the target
-- type, and the next number is above that of every cell
pub record Fits (types : List TypeEntry) (vars : List VarEntry) (s : StoreMap) : Type 0 where
  pub cells : (c : CellId) → IfSome (cell_of s c) (CellFits types s)
  pub values : VarsFit s vars s.vars
  pub above : IsAbove s

-- a value names cells below this number alone
abbrev pub NamesBelow : ℕ → Value → Type 0
NamesBelow n (value.Bool b) = Unit {0}
NamesBelow n (value.Cell c) = IfSome c (λ cell. cell.0 < n)
NamesBelow n (value.Cells cells) = AllByRecursion (λ cell. cell.0 < n) cells

-- the next number is above every cell number that stands anywhere in the store
pub record IsFresh (s : StoreMap) : Type 0 where
  pub cells : IsAbove s
  pub values : (c : CellId) → IfSome (cell_of s c) (λ cell. AllByRecursion (λ x. IfSome x (NamesBelow s.next)) cell.values)
  pub vars : AllByRecursion (NamesBelow s.next) s.vars

-- ---- stores whose values name live cells

-- a value names live cells alone
abbrev pub NamesLiveAlone : StoreMap → Value → Type 0
NamesLiveAlone s (value.Bool b) = Unit {0}
NamesLiveAlone s (value.Cell c) = IfSome c (IsLive s)
NamesLiveAlone s (value.Cells cells) = AllByRecursion (IsLive s) cells

-- no field of a live cell, no variable and no set names a dead cell
pub record NamesNoDead (s : StoreMap) : Type 0 where
  pub fields : (c : CellId) (f : FieldId) → IfSome (field_value s c f) (NamesLiveAlone s)
  pub vars : (v : VarId) → IfSome (var_value s v) (NamesLiveAlone s)
