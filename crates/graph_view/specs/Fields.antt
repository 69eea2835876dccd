-- What bool and data fields hold after heap events, as formulas, and which fields there are. (Klarlund and Schwartzbach 1993:
-- data fields are the children of a cell.)
use Rattle.std.specs.Prelude.{ℕ, ◌==◌, ◌&&◌, Bool, true, false, List, [], ◌∷◌, flat_map, filter, if◌then◌else◌, unwrap_or}
use Rattle.std.specs.Option.{option_map_or}
use Rattle.std.specs.Str.{bytes_eq}
use Rattle.store_core.specs.declared.ids.TypeId.{TypeId}
use Rattle.store_core.specs.declared.ids.FieldId.{FieldId}
use Rattle.store_core.specs.declared.kind.FieldKind.{FieldKind}
use Rattle.store_core.specs.declared.kind.FieldKind.TheVariants as field
use Rattle.store_core.specs.Tables.{TypeEntry, FieldEntry, field_at}
use Rattle.tree_encode.specs.Tracks.{bool_track, child_number}
use Rattle.ws2s_core.specs.declared.formula.Formula.{Formula}
use Rattle.ws2s_core.specs.declared.formula.Formula.TheVariants.{Sub, And, Not}
use Rattle.ws2s_forms.specs.Forms.{track, or, and_list, child}
use Rattle.tree_formula.specs.WellEncoded.{types_in, fields_in, track_or_first}
use Rattle.graph_view.specs.declared.view.Sym.{Sym}
use Rattle.graph_view.specs.declared.view.Event.{Event}
use Rattle.graph_view.specs.declared.view.Event.TheVariants.{New, Write, Free}
use Rattle.graph_view.specs.Syms.{is_in, is_changed, truth, guard}
use Rattle.graph_view.specs.Sights.{Sight, at_first}
use Rattle.graph_view.specs.Live.{lives_in, has}

-- ---- the fields of all types in order

abbrev pub is_bool : FieldKind → Bool
is_bool field.Bool = true
is_bool (field.Data target) = false
is_bool (field.Pointer target along) = false

abbrev pub is_data : FieldKind → Bool
is_data field.Bool = false
is_data (field.Data target) = true
is_data (field.Pointer target along) = false

-- a data or pointer field
abbrev pub is_reference : FieldKind → Bool
is_reference field.Bool = false
is_reference (field.Data target) = true
is_reference (field.Pointer target along) = true

-- those of one type of which this is so
abbrev pub fields_in_where : List TypeEntry → (FieldEntry → Bool) → TypeId → List FieldId
fields_in_where types is ty = filter (λ f. option_map_or is (field_at types f) false) (fields_in types ty)

-- and of all types
abbrev pub fields_where : List TypeEntry → (FieldEntry → Bool) → List FieldId
fields_where types is = flat_map (fields_in_where types is) (types_in types)

-- those of a kind
abbrev pub has_kind : (FieldKind → Bool) → FieldEntry → Bool
has_kind is entry = is entry.kind

abbrev pub fields_of_kind : List TypeEntry → (FieldKind → Bool) → List FieldId
fields_of_kind types is = fields_where types (has_kind is)

-- those of a name and of a kind
abbrev pub is_named : List ℕ → (FieldKind → Bool) → FieldEntry → Bool
is_named name is entry = bytes_eq name entry.name && is entry.kind

abbrev pub fields_named : List TypeEntry → List ℕ → (FieldKind → Bool) → List FieldId
fields_named types name is = fields_where types (is_named name is)

-- ---- writes

abbrev pub is_field : FieldId → FieldId → Bool
is_field f g = (f.ty.0 == g.ty.0) && (f.index == g.index)

-- one event: what the field of the cell on track a holds is `new` where it is written, and else what it was
abbrev pub written : ℕ → FieldId → ℕ → (Sym → Formula) → Event → Formula → Formula
written next f a new (New g k v) earlier = earlier
written next f a new (Write g u h x) earlier =
    if is_field f h then or (and_list next (guard next g ∷ is_in next a u ∷ new x ∷ [])) (And (Not (is_changed next a g u)) earlier)
    else earlier
written next f a new (Free g u) earlier = earlier

-- all events, the last one first
abbrev pub after : ℕ → FieldId → ℕ → (Sym → Formula) → Formula → List Event → Formula
after next f a new first [] = first
after next f a new first (e ∷ earlier) = written next f a new e (after next f a new first earlier)

-- ---- bool fields

-- the bool field of the cell on track a is true
abbrev pub is_true : List TypeEntry → Sight → ℕ → FieldId → ℕ → Formula
is_true types sight next f a = after next f a (truth next) (Sub (track a) (track_or_first (bool_track types f))) sight.events

-- ---- data fields

-- before all events: the cell has the field, and b is its child, a live cell of the target type
abbrev pub first_child : List TypeEntry → Sight → ℕ → FieldId → TypeId → ℕ → ℕ → Formula
first_child types sight next f target a b =
    and_list next (has types (at_first sight.slots) next f a ∷ child next (unwrap_or (child_number types f) 0) a b ∷ lives_in types (at_first sight.slots)
    next target b ∷ [])

-- the data field of the cell on track a names the cell on track b
abbrev pub data_names : List TypeEntry → Sight → ℕ → FieldId → TypeId → ℕ → ℕ → Formula
data_names types sight next f target a b = after next f a (is_in next b) (first_child types sight next f target a b) sight.events
