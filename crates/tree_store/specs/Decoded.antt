-- The store that a laid-out assignment stands for, but for its pointer fields. (Klarlund and Schwartzbach 1993: a labelled
-- tree as a backbone.)
use Rattle.std.specs.Prelude.{◌≡◌, ℕ, zero, suc, ◌<◌, Bool, true, false, List, [], ◌∷◌, ◌++◌, length, slice_get, Option, Some, None, if◌then◌else◌}
use Rattle.std.specs.Option.{option_map_or, option_and_then}
use Rattle.std.specs.FinMap.{from_sorted}
use Rattle.std.specs.Ordering.{nat_cmp}
use Rattle.gta_theory.specs.Assignments.{Position, Assignment, is_same_position}
use Rattle.ws2s_core.specs.declared.track.Track.{Track}
use Rattle.ws2s_forms.specs.Places.{child_of}
use Rattle.store_core.specs.declared.ids.VariantId.{VariantId}
use Rattle.store_core.specs.declared.ids.FieldId.{FieldId}
use Rattle.store_core.specs.declared.ids.CellId.{CellId}
use Rattle.store_core.specs.declared.kind.FieldKind.{FieldKind}
use Rattle.store_core.specs.declared.kind.FieldKind.TheVariants as field
use Rattle.store_core.specs.declared.kind.VarKind.{VarKind}
use Rattle.store_core.specs.declared.kind.VarKind.TheVariants as var
use Rattle.store_core.specs.declared.value.Value.{Value}
use Rattle.store_core.specs.declared.value.Value.TheVariants as value
use Rattle.store_core.specs.Tables.{TypeEntry, FieldEntry, VarEntry, fields_of, is_had}
use Rattle.store_core.specs.Stores.{StoreMap, CellEntry}
use Rattle.tree_encode.specs.Tracks.{variants_from, variant_track, bool_track, var_track, child_number}
use Rattle.tree_store.specs.Shapes.{IsCellOf}
use Rattle.tree_store.specs.Preorder.{ComesBefore}

-- ---- the cells

-- a cell of a variant, at a position
pub record Standing : Type 0 where
  pub variant : VariantId
  pub at : Position

-- the cells that stand on the tracks of the variants, in preorder, each once
pub record AreCells (types : List TypeEntry) (a : Assignment) (cells : List Standing) : Type 0 where
  pub each : (i : ℕ) (x : Standing) → slice_get cells i ≡ Some x → IsCellOf types a x.variant x.at
  pub all : (v : VariantId) (p : Position) → IsCellOf types a v p → (i : ℕ) × (slice_get cells i ≡ Some (record { variant = v; at = p }))
  pub in_order : (i j : ℕ) (x y : Standing) → i < j → slice_get cells i ≡ Some x → slice_get cells j ≡ Some y → ComesBefore x.at y.at

abbrev pub numbered : ℕ → CellId
numbered n = record { 0 = n }

-- the first cell at a position of which this is so, where the cells have the numbers from n on
abbrev pub first_where : (Position → Bool) → ℕ → List Standing → Option CellId
first_where test n [] = None
first_where test n (x ∷ cells) = if test x.at then Some (numbered n) else first_where test (suc n) cells

-- all of them, by number
abbrev pub all_where : (Position → Bool) → ℕ → List Standing → List CellId
all_where test n [] = []
all_where test n (x ∷ cells) = if test x.at then numbered n ∷ all_where test (suc n) cells else all_where test (suc n) cells

-- ---- what they hold

-- the position is on the track, if there is one
abbrev pub is_on : Assignment → Option Track → Position → Bool
is_on a track p = option_map_or (λ (t : Track). a t.0 p) track false

-- the cell that stands at the child with this number of a position
abbrev pub child_at : List Standing → Position → ℕ → Option CellId
child_at cells p j = first_where (is_same_position (child_of j p)) 1 cells

-- what a cell at this position holds in a field of the kind: the truth on its track, the cell at its child, and null for a pointer
abbrev pub field_in : List TypeEntry → Assignment → List Standing → Position → FieldId → FieldKind → Value
field_in types a cells p f field.Bool = value.Bool (is_on a (bool_track types f) p)
field_in types a cells p f (field.Data target) = value.Cell (option_and_then (child_at cells p) (child_number types f))
field_in types a cells p f (field.Pointer target along) = value.Cell None

-- the same where the variant has the field
abbrev pub slot_in : List TypeEntry → Assignment → List Standing → Standing → FieldId → FieldEntry → Option Value
slot_in types a cells x f entry = if is_had x.variant.index entry then Some (field_in types a cells x.at f entry.kind) else None

-- the same of the fields of its type from number i on
abbrev pub slots_in : List TypeEntry → Assignment → List Standing → Standing → ℕ → List FieldEntry → List (Option Value)
slots_in types a cells x i [] = []
slots_in types a cells x i (entry ∷ fields) =
    slot_in types a cells x (record { ty = x.variant.ty; index = i }) entry ∷ slots_in types a cells x (suc i) fields

-- the cell itself
abbrev pub cell_in : List TypeEntry → Assignment → List Standing → Standing → CellEntry
cell_in types a cells x = record { variant = x.variant; values = slots_in types a cells x 0 (fields_of types x.variant.ty) }

-- the cells `from`, numbered from n on
abbrev pub entries_in : List TypeEntry → Assignment → List Standing → ℕ → List Standing → List (ℕ × CellEntry)
entries_in types a cells n [] = []
entries_in types a cells n (x ∷ from) = (n, cell_in types a cells x) ∷ entries_in types a cells (suc n) from

-- what a variable of the kind holds: the truth at the root of its track, the cell on its track, or the cells on it
abbrev pub var_in : Assignment → List Standing → Option Track → VarKind → Value
var_in a cells track var.Bool = value.Bool (is_on a track [])
var_in a cells track (var.Data target) = value.Cell (first_where (is_on a track) 1 cells)
var_in a cells track (var.Pointer target) = value.Cell (first_where (is_on a track) 1 cells)
var_in a cells track (var.LogicSet target) = value.Cells (all_where (is_on a track) 1 cells)
var_in a cells track var.LogicBool = value.Bool (is_on a track [])

-- the variables from number i on
abbrev pub vars_in : List TypeEntry → List VarEntry → Assignment → List Standing → ℕ → List VarEntry → List Value
vars_in types vars a cells i [] = []
vars_in types vars a cells i (v ∷ from) =
    var_in a cells (var_track types vars (record { 0 = i })) v.kind ∷ vars_in types vars a cells (suc i) from

-- the store of these cells, numbered from 1 on
abbrev pub decoded : List TypeEntry → List VarEntry → Assignment → List Standing → StoreMap
decoded types vars a cells = record {
  cells = from_sorted {R = nat_cmp} (entries_in types a cells 1 cells);
  vars = vars_in types vars a cells 0 vars;
  next = suc (length cells);
}

-- ---- the list of the cells

-- the cell at the position: of the first variant on whose track it is
abbrev pub cell_at : List TypeEntry → Assignment → Position → List VariantId → List Standing
cell_at types a p [] = []
cell_at types a p (v ∷ variants) = if is_on a (variant_track types v) p then record { variant = v; at = p } ∷ [] else cell_at types a p variants

-- the cells at a position and below it, down to so many letters more, in preorder
abbrev pub cells_below : List TypeEntry → Assignment → ℕ → Position → List Standing
cells_below types a zero p = []
cells_below types a (suc n) p =
    cell_at types a p (variants_from 0 types) ++ (cells_below types a n (p ++ false ∷ []) ++ cells_below types a n (p ++ true ∷ []))
