-- The store text: the variables in order, the cells by number, the fields in order, the members of a set by number. Each line
-- ends with LF. (The spelling is this project's.)
use Rattle.std.specs.Prelude.{◌≡◌, ℕ, List, [], ◌++◌, length, slice_get, Option, codes, if◌then◌else◌}
use Rattle.std.specs.Option.{option_map_or}
use Rattle.std.specs.List.{flat_map, join_by, zip}
use Rattle.std.specs.Fmt.{decimal}
use Rattle.std.specs.FinMap.{entries}
use Rattle.store_core.specs.declared.ids.VariantId.{VariantId}
use Rattle.store_core.specs.declared.ids.CellId.{CellId}
use Rattle.store_core.specs.declared.value.Value.{Value}
use Rattle.store_core.specs.declared.value.Value.TheVariants as value
use Rattle.store_core.specs.Tables.{TypeEntry, FieldEntry, VarEntry, type_at, fields_of, variants_of}
use Rattle.store_core.specs.Stores.{StoreMap, CellEntry}

-- a cell by its number
abbrev pub cell_text : CellId → List ℕ
cell_text c = decimal c.0

-- `true` or `false`; `null` or a cell; `{` cells separated by one space `}`
abbrev pub value_text : Value → List ℕ
value_text (value.Bool b) = if b then codes "true" else codes "false"
value_text (value.Cell c) = option_map_or cell_text c (codes "null")
value_text (value.Cells cells) = codes "{" ++ join_by cell_text (codes " ") cells ++ codes "}"

-- `var NAME VALUE`
abbrev pub var_line : List ℕ → Value → List ℕ
var_line name x = codes "var " ++ name ++ codes " " ++ value_text x ++ codes "\n"

-- the lines of the variables
abbrev pub var_lines : List VarEntry → List Value → List ℕ
var_lines vars values = flat_map (λ v. var_line v.0.name v.1) (zip vars values)

-- a cell has a place for each field of its type
abbrev pub HasSlots : List TypeEntry → CellEntry → Type 0
HasSlots types cell = length cell.values ≡ length (fields_of types cell.variant.ty)

-- ` FIELD=VALUE`, and nothing for a field that the cell hasn't
abbrev pub slot_text : List ℕ → Option Value → List ℕ
slot_text name slot = option_map_or (λ x. codes " " ++ name ++ codes "=" ++ value_text x) slot []

-- the fields that the cell has
abbrev pub slots_text : List FieldEntry → List (Option Value) → List ℕ
slots_text fields slots = flat_map (λ slot. slot_text slot.0.name slot.1) (zip fields slots)

-- `TYPE`, or `TYPE:VARIANT` for a named variant
abbrev pub variant_text : List TypeEntry → VariantId → List ℕ
variant_text types v = option_map_or (λ t. t.name) (type_at types v.ty) []
    ++ option_map_or (λ name. codes ":" ++ name) (slice_get (variants_of types v.ty) v.index) []

-- `cell N TYPE FIELD=VALUE ..`
abbrev pub cell_line : List TypeEntry → ℕ → CellEntry → List ℕ
cell_line types number cell = codes "cell " ++ decimal number ++ codes " " ++ variant_text types cell.variant
    ++ slots_text (fields_of types cell.variant.ty) cell.values ++ codes "\n"

-- the lines of the cells
abbrev pub cell_lines : List TypeEntry → List (ℕ × CellEntry) → List ℕ
cell_lines types cells = flat_map (λ cell. cell_line types cell.0 cell.1) cells

-- `store`, the variables, the cells, `end`
abbrev pub store_text_of : List TypeEntry → List VarEntry → StoreMap → List ℕ
store_text_of types vars s = codes "store\n" ++ var_lines vars s.vars ++ cell_lines types (entries s.cells) ++ codes "end\n"
