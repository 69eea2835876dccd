-- The guide of a layout: a row of spaces for the slots, one for the children of each type's cells, and a last space, the
-- rest. (Klarlund and Schwartzbach 1993; the guided tree automata of MONA.)
use Rattle.std.specs.Prelude.{ℕ, suc, ◌+◌, ◌==◌, max, List, [], ◌∷◌, ◌++◌, length, map, flat_map, take, sum_by, if◌then◌else◌}
use Rattle.store_core.specs.declared.ids.TypeId.{TypeId}
use Rattle.store_core.specs.declared.ids.VariantId.{VariantId}
use Rattle.store_core.specs.declared.kind.FieldKind.{FieldKind}
use Rattle.store_core.specs.declared.kind.FieldKind.TheVariants as field
use Rattle.store_core.specs.declared.kind.VarKind.{VarKind}
use Rattle.store_core.specs.declared.kind.VarKind.TheVariants as var
use Rattle.store_core.specs.Tables.{TypeEntry, VarEntry}

-- the type of the cell that a data variable names, and none of another variable
abbrev pub var_targets : VarKind → List TypeId
var_targets (var.Data target) = target ∷ []
var_targets _ = []

-- the type of the cells that a data field names, and none of another field
abbrev pub field_targets : FieldKind → List TypeId
field_targets (field.Data target) = target ∷ []
field_targets _ = []

-- the types of the slots' cells: of the data variables in order, and then of the spares
abbrev pub slot_types : List VarEntry → List VariantId → List TypeId
slot_types vars spares = flat_map (λ v. var_targets v.kind) vars ++ map (λ v. v.ty) spares

-- the types of a cell's children: the targets of the type's data fields in order
abbrev pub child_types : TypeEntry → List TypeId
child_types t = flat_map (λ f. field_targets f.kind) t.fields

-- how many spaces a row for so many has
abbrev pub row_length : ℕ → ℕ
row_length n = max n 1

-- the space of a row whose 0 leads to this one; its 1 leads to the next of the row, and the last one's to the rest
abbrev pub row_of_some : ℕ → ℕ → List ℕ → List (ℕ × ℕ)
row_of_some first rest [] = []
row_of_some first rest (zero_child ∷ later) =
    (zero_child, (if length later == 0 then rest else suc first)) ∷ row_of_some (suc first) rest later

-- a row from a number on: one space for each of these 0-children; for none one space, which leads to the rest alone
abbrev pub row : ℕ → ℕ → List ℕ → List (ℕ × ℕ)
row first rest children = if length children == 0 then (rest, rest) ∷ [] else row_of_some first rest children

-- how many spaces the rows of types have
abbrev pub spaces_in : List TypeEntry → ℕ
spaces_in types = sum_by (λ t. row_length (length (child_types t))) types

-- the first space of a type, where the types' spaces begin at `start`; a type that isn't there counts as behind all
abbrev pub first_space : List TypeEntry → ℕ → TypeId → ℕ
first_space types start ty = start + spaces_in (take ty.0 types)

-- the rows of types from a number on, where the types' spaces begin at `start` and the rest is `rest`
abbrev pub rows_after : List TypeEntry → ℕ → ℕ → ℕ → List TypeEntry → List (ℕ × ℕ)
rows_after types start rest n [] = []
rows_after types start rest n (t ∷ ts) =
    row n rest (map (first_space types start) (child_types t))
    ++ rows_after types start rest (n + row_length (length (child_types t))) ts

-- the number of the first type's first space: the row of the slots stands before it
abbrev pub types_start : List VarEntry → List VariantId → ℕ
types_start vars spares = row_length (length (slot_types vars spares))

-- the row of the slots, the rows of the types in order, and the rest, whose children are itself
abbrev pub guide_of : List TypeEntry → List VarEntry → List VariantId → List (ℕ × ℕ)
guide_of types vars spares =
    let start = types_start vars spares in
    let rest = start + spaces_in types in
    (row 0 rest (map (first_space types start) (slot_types vars spares)) ++ rows_after types start rest start types)
    ++ (rest, rest) ∷ []
