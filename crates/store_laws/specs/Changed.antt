-- What each change of a store changes and what it leaves, as facts to take apart.
use Rattle.std.specs.Prelude.{◌≡◌, ◌≢◌, ◌↔◌, ◌⊎◌, ◌+◌, ◌==◌, List, Option, Some, None, option_map, if◌then◌else◌}
use Rattle.std.specs.Option.{option_and_then}
use Rattle.store_core.specs.declared.ids.VariantId.{VariantId}
use Rattle.store_core.specs.declared.ids.FieldId.{FieldId}
use Rattle.store_core.specs.declared.ids.VarId.{VarId}
use Rattle.store_core.specs.declared.ids.CellId.{CellId}
use Rattle.store_core.specs.declared.value.Value.{Value}
use Rattle.store_core.specs.Tables.{TypeEntry, field_at}
use Rattle.store_core.specs.Stores.{StoreMap, CellEntry, IsLive, cell_of, field_value, var_value, blank_slot, blank_cell, with_field}

-- the cell that a store makes next
abbrev pub next_cell : StoreMap → CellId
next_cell s = record { 0 = s.next }

-- the variant of a cell, where it is live
abbrev pub variant_of : StoreMap → CellId → Option VariantId
variant_of s c = option_map (λ cell. cell.variant) (cell_of s c)

-- the value of a new cell's field: false or null where the variant has the field
abbrev pub blank_field : List TypeEntry → VariantId → FieldId → Option Value
blank_field types v f = if v.ty.0 == f.ty.0 then option_and_then (blank_slot v.index) (field_at types f) else None

-- c, which no live cell was, is a cell of the variant with the old next number, its fields false or null; all else is as it was
pub record IsPut (types : List TypeEntry) (v : VariantId) (c : CellId) (s t : StoreMap) : Type 0 where
  pub number : c.0 ≡ s.next
  pub was_dead : cell_of s c ≡ None
  pub cell : cell_of t c ≡ Some (blank_cell types v)
  pub fields : (f : FieldId) → field_value t c f ≡ blank_field types v f
  pub other_cells : (d : CellId) → d ≢ c → cell_of t d ≡ cell_of s d
  pub other_fields : (d : CellId) (f : FieldId) → d ≢ c → field_value t d f ≡ field_value s d f
  pub live : (d : CellId) → IsLive t d ↔ (IsLive s d ⊎ (d ≡ c))
  pub vars : t.vars ≡ s.vars
  pub next : t.next ≡ s.next + 1

-- the cell's field has this value; every other field of this cell and of all others, each cell's variant, and all else is as it was
pub record IsFieldSet (c : CellId) (f : FieldId) (x : Value) (s t : StoreMap) : Type 0 where
  pub cell : (old : CellEntry) → cell_of s c ≡ Some old → cell_of t c ≡ Some (with_field old f x)
  pub value : field_value t c f ≡ Some x
  pub other_fields : (g : FieldId) → g ≢ f → field_value t c g ≡ field_value s c g
  pub other_cells : (d : CellId) → d ≢ c → cell_of t d ≡ cell_of s d
  pub fields_of_others : (d : CellId) (g : FieldId) → d ≢ c → field_value t d g ≡ field_value s d g
  pub variants : (d : CellId) → variant_of t d ≡ variant_of s d
  pub live : (d : CellId) → IsLive t d ↔ IsLive s d
  pub vars : t.vars ≡ s.vars
  pub next : t.next ≡ s.next

-- the variable has this value; every other variable, and all else, is as it was
pub record IsVarSet (v : VarId) (x : Value) (s t : StoreMap) : Type 0 where
  pub value : var_value t v ≡ Some x
  pub other_vars : (w : VarId) → w ≢ v → var_value t w ≡ var_value s w
  pub cells : t.cells ≡ s.cells
  pub next : t.next ≡ s.next

-- c is dead; every other cell, and all else, is as it was: variables and fields that name c stay
pub record IsRemoved (c : CellId) (s t : StoreMap) : Type 0 where
  pub dead : cell_of t c ≡ None
  pub fields : (f : FieldId) → field_value t c f ≡ None
  pub other_cells : (d : CellId) → d ≢ c → cell_of t d ≡ cell_of s d
  pub other_fields : (d : CellId) (f : FieldId) → d ≢ c → field_value t d f ≡ field_value s d f
  pub live : (d : CellId) → IsLive t d ↔ (IsLive s d × (d ≢ c))
  pub vars : t.vars ≡ s.vars
  pub next : t.next ≡ s.next
