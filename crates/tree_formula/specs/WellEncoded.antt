-- The formula that the trees of stores satisfy. (Klarlund and Schwartzbach 1993: the well-formed labelings of a tree.) A
-- position a is one on the track `a`; what stands inside a quantifier binds tracks from the one after it on.
use Rattle.std.specs.Prelude.{ℕ, zero, suc, ◌==◌, nat_lt, List, [], ◌∷◌, ◌++◌, length, map, flat_map, unwrap_or, Option, Some, None, if◌then◌else◌}
use Rattle.std.specs.Option.{option_map_or, option_and_then}
use Rattle.ws2s_core.specs.declared.track.Track.{Track}
use Rattle.ws2s_core.specs.declared.formula.Formula.{Formula}
use Rattle.ws2s_core.specs.declared.formula.Formula.TheVariants.{Sub, Single, Root, And, Not}
use Rattle.ws2s_forms.specs.Forms.{track, and_list, or_list, or, imp, iff, ex1, all1, empty_at, child, slot}
use Rattle.store_core.specs.declared.ids.TypeId.{TypeId}
use Rattle.store_core.specs.declared.ids.VariantId.{VariantId}
use Rattle.store_core.specs.declared.ids.FieldId.{FieldId}
use Rattle.store_core.specs.declared.ids.VarId.{VarId}
use Rattle.store_core.specs.declared.kind.FieldKind.{FieldKind}
use Rattle.store_core.specs.declared.kind.FieldKind.TheVariants as field
use Rattle.store_core.specs.declared.kind.VarKind.{VarKind}
use Rattle.store_core.specs.declared.kind.VarKind.TheVariants as var
use Rattle.store_core.specs.Tables.{TypeEntry, VarEntry, fields_of, field_at, var_at, variant_count, unnamed_of}
use Rattle.tree_encode.specs.Tracks.{variant_track, bool_track, var_track, slot_of_var, child_number}

-- ---- what there is, in order

-- the names of the numbers below n, in order
abbrev pub named : {X : Type 0} → (ℕ → X) → ℕ → List X
named name zero = []
named name (suc n) = named name n ++ name n ∷ []

abbrev pub type_id : ℕ → TypeId
type_id n = record { 0 = n }

abbrev pub variant_in : TypeId → ℕ → VariantId
variant_in ty i = record { ty = ty; index = i }

abbrev pub field_in : TypeId → ℕ → FieldId
field_in ty i = record { ty = ty; index = i }

abbrev pub var_id : ℕ → VarId
var_id n = record { 0 = n }

abbrev pub types_in : List TypeEntry → List TypeId
types_in types = named type_id (length types)

abbrev pub variants_of : List TypeEntry → TypeId → List VariantId
variants_of types ty = named (variant_in ty) (variant_count types ty)

abbrev pub fields_in : List TypeEntry → TypeId → List FieldId
fields_in types ty = named (field_in ty) (length (fields_of types ty))

abbrev pub vars_in : List VarEntry → List VarId
vars_in vars = named var_id (length vars)

-- the track of a part of the layout; a part that isn't there counts as the first
abbrev pub track_or_first : Option Track → Track
track_or_first None = track 0
track_or_first (Some t) = t

-- ---- live cells

-- a is a live cell of the variant
abbrev pub is_of : List TypeEntry → VariantId → ℕ → Formula
is_of types v a = Sub (track a) (track_or_first (variant_track types v))

-- a is a live cell of the type: of the variant without a name, or of one of those with names
abbrev pub is_live : ℕ → List TypeEntry → TypeId → ℕ → Formula
is_live next types ty a =
    option_map_or (λ v. is_of types v a) (unnamed_of types ty) (or_list next (map (λ v. is_of types v a) (variants_of types ty)))

-- the variant that alone has the field, by its declaration
abbrev pub owner : List TypeEntry → FieldId → Option VariantId
owner types f = option_and_then (λ e. option_map_or (λ i. Some (variant_in f.ty i)) e.only None) (field_at types f)

-- a is a live cell that has the field
abbrev pub has : ℕ → List TypeEntry → FieldId → ℕ → Formula
has next types f a = option_map_or (λ v. is_of types v a) (owner types f) (is_live next types f.ty a)

-- ---- types

-- a is the slot of the variable, where it is a data variable of the type
abbrev pub at_slot : ℕ → List VarEntry → TypeId → ℕ → VarKind → Option ℕ → List Formula
at_slot next vars ty a (var.Data target) (Some i) = if target.0 == ty.0 then slot next i a ∷ [] else []
at_slot next vars ty a _ _ = []

-- a is the child with the number j of some cell that has the field
abbrev pub is_child : ℕ → List TypeEntry → ℕ → FieldId → ℕ → Formula
is_child next types a f j = ex1 next (And (has (suc next) types f next) (child (suc next) j next a))

-- the same, where the field is a data field with the type as target
abbrev pub at_child : ℕ → List TypeEntry → TypeId → ℕ → FieldId → FieldKind → Option ℕ → List Formula
at_child next types ty a f (field.Data target) (Some j) =
    if target.0 == ty.0 then is_child next types a f j ∷ [] else []
at_child next types ty a f _ _ = []

-- the slots of the variables
abbrev pub slot_places : ℕ → List VarEntry → TypeId → ℕ → VarId → List Formula
slot_places next vars ty a v = option_map_or (λ e. at_slot next vars ty a e.kind (slot_of_var vars v)) (var_at vars v) []

-- the children that a field leads to
abbrev pub child_places : ℕ → List TypeEntry → TypeId → ℕ → FieldId → List Formula
child_places next types ty a f = option_map_or (λ e. at_child next types ty a f e.kind (child_number types f)) (field_at types f) []

-- and those of a type's fields
abbrev pub places_below : ℕ → List TypeEntry → TypeId → ℕ → TypeId → List Formula
places_below next types ty a parent = flat_map (child_places next types ty a) (fields_in types parent)

-- the places where a cell of the type may be: slots, and then children
abbrev pub places : ℕ → List TypeEntry → List VarEntry → TypeId → ℕ → List Formula
places next types vars ty a =
    flat_map (slot_places next vars ty a) (vars_in vars) ++ flat_map (places_below next types ty a) (types_in types)

-- each live cell of the type is at one of its places
abbrev pub are_reached : ℕ → List TypeEntry → List VarEntry → TypeId → Formula
are_reached next types vars ty = all1 next (imp (is_live (suc next) types ty next) (or_list (suc next) (places (suc next) types vars ty next)))

-- the only variant that has the field: that which alone has it by its declaration, or the only one of its type
abbrev pub only_variant : List TypeEntry → FieldId → Option VariantId
only_variant types f =
    option_map_or (λ v. Some v) (owner types f) (if variant_count types f.ty == 1 then Some (variant_in f.ty 0) else None)

-- where the field is true, a live cell has it
abbrev pub is_had : ℕ → List TypeEntry → FieldId → Track → Formula
is_had next types f b =
    option_map_or (λ v. Sub b (track_or_first (variant_track types v))) (only_variant types f)
    (all1 next (imp (Sub (track next) b) (has (suc next) types f next)))

-- what is said of a field: of a bool field that live cells have it where it is true
abbrev pub field_part : ℕ → List TypeEntry → FieldId → List Formula
field_part next types f = option_map_or (λ b. is_had next types f b ∷ []) (bool_track types f) []

-- what is said of a type
abbrev pub type_parts : ℕ → List TypeEntry → List VarEntry → TypeId → List Formula
type_parts next types vars ty = are_reached next types vars ty ∷ flat_map (field_part next types) (fields_in types ty)

-- ---- variables

-- the set has live cells of the type alone
abbrev pub is_within : ℕ → List TypeEntry → TypeId → Track → Formula
is_within next types ty x =
    option_map_or (λ v. Sub x (track_or_first (variant_track types v))) (unnamed_of types ty)
    (all1 next (imp (Sub (track next) x) (is_live (suc next) types ty next)))

-- the variable is the empty set or the root
abbrev pub is_truth : ℕ → Track → Formula
is_truth next x = or (empty_at next x.0) (Root x)

-- the variable is the live cell of the type in the slot, where one is there
abbrev pub is_in_slot : ℕ → List TypeEntry → ℕ → TypeId → Track → Formula
is_in_slot next types i ty x = all1 next (iff (Sub (track next) x) (And (slot (suc next) i next) (is_live (suc next) types ty next)))

-- the variable is no or one live cell of the type
abbrev pub is_pointer : ℕ → List TypeEntry → TypeId → Track → Formula
is_pointer next types ty x = And (is_within next types ty x) (or (empty_at next x.0) (Single x))

-- what is said of a variable of a kind, with its slot and its track
abbrev pub var_part : ℕ → List TypeEntry → ℕ → Track → VarKind → Formula
var_part next types i x var.Bool = is_truth next x
var_part next types i x (var.Data ty) = is_in_slot next types i ty x
var_part next types i x (var.Pointer ty) = is_pointer next types ty x
var_part next types i x (var.LogicSet ty) = is_within next types ty x
var_part next types i x var.LogicBool = is_truth next x

-- what is said of a variable
abbrev pub var_parts : ℕ → List TypeEntry → List VarEntry → VarId → List Formula
var_parts next types vars v =
    option_map_or (λ e. var_part next types (unwrap_or (slot_of_var vars v) 0) (track_or_first (var_track types vars v)) e.kind ∷ []) (var_at vars v) []

-- ---- variants

-- no cell is of both variants
abbrev pub are_apart : ℕ → List TypeEntry → VariantId → VariantId → Formula
are_apart next types v w = Not (ex1 next (And (is_of types v next) (is_of types w next)))

-- the same, where the second one is the later
abbrev pub apart_pair : ℕ → List TypeEntry → VariantId → VariantId → List Formula
apart_pair next types v w = if nat_lt v.index w.index then are_apart next types v w ∷ [] else []

-- the same for this variant and each later one
abbrev pub apart_from_later : ℕ → List TypeEntry → VariantId → List Formula
apart_from_later next types v = flat_map (apart_pair next types v) (variants_of types v.ty)

-- no cell is of two variants of the type
abbrev pub apart_parts : ℕ → List TypeEntry → TypeId → List Formula
apart_parts next types ty = flat_map (apart_from_later next types) (variants_of types ty)

-- ---- all together

-- the types, the variables, and the types again
abbrev pub parts : ℕ → List TypeEntry → List VarEntry → List Formula
parts next types vars =
    flat_map (type_parts next types vars) (types_in types)
    ++ (flat_map (var_parts next types vars) (vars_in vars) ++ flat_map (apart_parts next types) (types_in types))

-- the tree is that of a store; quantifiers bind tracks from `next` on
abbrev pub well_encoded : ℕ → List TypeEntry → List VarEntry → Formula
well_encoded next types vars = and_list next (parts next types vars)
