-- The tracks of a layout: which there are, in order, and which number each has. (Klarlund and Schwartzbach 1993 lay a store
-- out in a tree; the order of the tracks is own.)
use Rattle.std.specs.Prelude.{ℕ, zero, suc, ◌+◌, nat_lt, List, [], ◌∷◌, ◌++◌, length, map, take, count_by, Option, Some, None, if◌then◌else◌}
use Rattle.std.specs.Option.{option_and_then}
use Rattle.ws2s_core.specs.declared.track.Track.{Track}
use Rattle.store_core.specs.declared.ids.VariantId.{VariantId}
use Rattle.store_core.specs.declared.ids.FieldId.{FieldId}
use Rattle.store_core.specs.declared.ids.VarId.{VarId}
use Rattle.store_core.specs.Tables.{TypeEntry, FieldEntry, VarEntry, count_of_variants, variant_count, field_at, var_at}
use Rattle.tree_encode.specs.declared.counting.Counted.TheVariants.{Bools, Children}
use Rattle.tree_encode.specs.Counting.{is_counted, rank, is_data_var, variants_in, bools_in}

-- ---- the tracks in order

-- what a track is for: the live cells of a variant, the cells whose bool field is true, or a variable
pub data TrackUse : Type 0 where
  of_variant : VariantId → TrackUse
  of_bool : FieldId → TrackUse
  of_var : VarId → TrackUse

-- so many variants of the type with this number, from an index on
abbrev pub variants_at : ℕ → ℕ → ℕ → List VariantId
variants_at ty index zero = []
variants_at ty index (suc left) = record { ty = record { 0 = ty }; index = index } ∷ variants_at ty (suc index) left

-- the variants of the types, numbered from n on: types in order, and the variants of each in order
abbrev pub variants_from : ℕ → List TypeEntry → List VariantId
variants_from n [] = []
variants_from n (t ∷ ts) = variants_at n 0 (count_of_variants t) ++ variants_from (suc n) ts

-- the bool fields among those of the type with this number, from an index on
abbrev pub bools_at : ℕ → ℕ → List FieldEntry → List FieldId
bools_at ty index [] = []
bools_at ty index (f ∷ fs) =
    if is_counted Bools f then record { ty = record { 0 = ty }; index = index } ∷ bools_at ty (suc index) fs
    else bools_at ty (suc index) fs

-- the bool fields of the types, numbered from n on
abbrev pub bools_from : ℕ → List TypeEntry → List FieldId
bools_from n [] = []
bools_from n (t ∷ ts) = bools_at n 0 t.fields ++ bools_from (suc n) ts

-- the variables, numbered from n on
abbrev pub vars_from : ℕ → List VarEntry → List VarId
vars_from n [] = []
vars_from n (v ∷ vs) = record { 0 = n } ∷ vars_from (suc n) vs

-- all tracks in order: one for each variant, then one for each bool field, then one for each variable
abbrev pub tracks_of : List TypeEntry → List VarEntry → List TrackUse
tracks_of types vars =
    map of_variant (variants_from 0 types) ++ (map of_bool (bools_from 0 types) ++ map of_var (vars_from 0 vars))

-- ---- the number of each, which is how many stand before it

abbrev pub track_at : ℕ → Track
track_at n = record { 0 = n }

-- how many tracks there are
abbrev pub track_count : List TypeEntry → List VarEntry → ℕ
track_count types vars = variants_in types + (bools_in types + length vars)

-- before a variant stand those of the earlier types, and the earlier ones of its type
abbrev pub variant_track : List TypeEntry → VariantId → Option Track
variant_track types v =
    if nat_lt v.index (variant_count types v.ty) then Some (track_at (variants_in (take v.ty.0 types) + v.index)) else None

-- before a bool field stand all variants, the bool fields of the earlier types, and the earlier ones of its type
abbrev pub bool_track : List TypeEntry → FieldId → Option Track
bool_track types f =
    option_and_then
    (λ entry. if is_counted Bools entry
    then Some (track_at (variants_in types + (bools_in (take f.ty.0 types) + rank Bools types f))) else None)
    (field_at types f)

-- before a variable stand all variants and bool fields, and the earlier variables
abbrev pub var_track : List TypeEntry → List VarEntry → VarId → Option Track
var_track types vars v =
    if nat_lt v.0 (length vars) then Some (track_at (variants_in types + (bools_in types + v.0))) else None

-- ---- slots and children

-- the slot of a data variable: how many data variables stand before it
abbrev pub slot_of_var : List VarEntry → VarId → Option ℕ
slot_of_var vars v =
    option_and_then (λ entry. if is_data_var entry then Some (count_by is_data_var (take v.0 vars)) else None) (var_at vars v)

-- the number of a data field: how many data fields of its type's whole list stand before it
abbrev pub child_number : List TypeEntry → FieldId → Option ℕ
child_number types f =
    option_and_then (λ entry. if is_counted Children entry then Some (rank Children types f) else None) (field_at types f)
