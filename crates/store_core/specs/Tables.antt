-- What a type table and a variable table are: lists of named things, each known by its place. (Klarlund and Schwartzbach,
-- POPL 1993, "graph types"; the spelling is this project's.)
use Rattle.std.specs.Prelude.{◌≡◌, IfSome, ℕ, ◌<◌, ◌≤◌, ◌==◌, ◌&&◌, Bool, true, false, IsTrue, nat_lt, List, [], length, map, slice_get, slice_set}
use Rattle.std.specs.Prelude.{Option, Some, None, option_map, position, if◌then◌else◌, ◌++◌, ◌∷◌}
use Rattle.std.specs.Option.{option_map_or, option_and_then}
use Rattle.std.specs.List.{AllByRecursion}
use Rattle.std.specs.Str.{bytes_eq}
use Rattle.store_core.specs.declared.ids.TypeId.{TypeId}
use Rattle.store_core.specs.declared.ids.VariantId.{VariantId}
use Rattle.store_core.specs.declared.ids.FieldId.{FieldId}
use Rattle.store_core.specs.declared.ids.VarId.{VarId}
use Rattle.store_core.specs.declared.kind.FieldKind.{FieldKind}
use Rattle.store_core.specs.declared.kind.FieldKind.TheVariants as field
use Rattle.store_core.specs.declared.kind.VarKind.{VarKind}
use Rattle.store_core.specs.declared.kind.VarKind.TheVariants as var
use Rattle.store_core.specs.declared.kind.Route.{Route}
use Rattle.store_core.specs.declared.kind.Route.TheOpen.{Route-F}
use Rattle.store_core.specs.declared.kind.Route.TheFolds.{fold-Route}
use Rattle.store_core.specs.declared.kind.Owner.{Owner}
use Rattle.store_core.specs.declared.kind.Owner.TheVariants as owner

-- a field: its name, the one variant that has it or none where all have it, and what it holds
pub record FieldEntry : Type 0 where
  pub name : List ℕ
  pub only : Option ℕ
  pub kind : FieldKind

-- a type: its name, the names of its variants, which are none where it has the one variant without a name, and its fields
pub record TypeEntry : Type 0 where
  pub name : List ℕ
  pub variants : List (List ℕ)
  pub fields : List FieldEntry

-- a variable: its name and what it holds
pub record VarEntry : Type 0 where
  pub name : List ℕ
  pub kind : VarKind

-- ---- what stands at a number

-- the type with this number
abbrev pub type_at : List TypeEntry → TypeId → Option TypeEntry
type_at types ty = slice_get types ty.0

-- the fields of a type in order; a type that isn't there has none
abbrev pub fields_of : List TypeEntry → TypeId → List FieldEntry
fields_of types ty = option_map_or (λ t. t.fields) (type_at types ty) []

-- the names of a type's variants in order, none for the variant without a name and for a type that isn't there
abbrev pub variants_of : List TypeEntry → TypeId → List (List ℕ)
variants_of types ty = option_map_or (λ t. t.variants) (type_at types ty) []

-- how many variants a type has: the one without a name, or those with names
abbrev pub count_of_variants : TypeEntry → ℕ
count_of_variants t = if length t.variants == 0 then 1 else length t.variants

-- the same by the type's number; a type that isn't there has none
abbrev pub variant_count : List TypeEntry → TypeId → ℕ
variant_count types ty = option_map_or count_of_variants (type_at types ty) 0

-- the field with this number
abbrev pub field_at : List TypeEntry → FieldId → Option FieldEntry
field_at types f = slice_get (fields_of types f.ty) f.index

-- the variable with this number
abbrev pub var_at : List VarEntry → VarId → Option VarEntry
var_at vars v = slice_get vars v.0

-- the variant without a name, where the type has it
abbrev pub unnamed_of : List TypeEntry → TypeId → Option VariantId
unnamed_of types ty = option_and_then (λ t. if length t.variants == 0 then Some (record { ty = ty; index = 0 }) else None) (type_at types ty)

-- who owns a field
abbrev pub owner_of : FieldId → FieldEntry → Owner
owner_of f entry = option_map_or (λ i. owner.Variant (record { ty = f.ty; index = i })) entry.only (owner.Common f.ty)

-- ---- what stands under a name

-- the place of a name in a list of names
abbrev pub place_of : List ℕ → List (List ℕ) → Option ℕ
place_of name names = position (bytes_eq name) names

abbrev pub type_names : List TypeEntry → List (List ℕ)
type_names types = map (λ t. t.name) types

abbrev pub field_names : List FieldEntry → List (List ℕ)
field_names fields = map (λ f. f.name) fields

abbrev pub var_names : List VarEntry → List (List ℕ)
var_names vars = map (λ v. v.name) vars

-- the type, field and variable of this name
abbrev pub type_named : List TypeEntry → List ℕ → Option TypeId
type_named types name = option_map (λ i. record { 0 = i }) (place_of name (type_names types))

abbrev pub field_named : List TypeEntry → TypeId → List ℕ → Option FieldId
field_named types ty name = option_map (λ i. record { ty = ty; index = i }) (place_of name (field_names (fields_of types ty)))

abbrev pub var_named : List VarEntry → List ℕ → Option VarId
var_named vars name = option_map (λ i. record { 0 = i }) (place_of name (var_names vars))

-- ---- which variant has which field

-- a variant with this index has the field: it is common, or this variant's own
abbrev pub is_had : ℕ → FieldEntry → Bool
is_had index entry = option_map_or (λ i. i == index) entry.only true

-- the variant is there and has the field
abbrev pub has_field : List TypeEntry → VariantId → FieldId → Bool
has_field types v f = (v.ty.0 == f.ty.0) && (nat_lt v.index (variant_count types v.ty) && option_map_or (is_had v.index) (field_at types f) false)

-- ---- what is known

-- the type is in the table
abbrev pub KnowsType : List TypeEntry → TypeId → Type 0
KnowsType types ty = ty.0 < length types

-- the variant is in the table; a type without named variants has the one with the index 0
abbrev pub KnowsVariant : List TypeEntry → VariantId → Type 0
KnowsVariant types v = v.index < variant_count types v.ty

-- the type or variant is in the table
abbrev pub KnowsOwner : List TypeEntry → Owner → Type 0
KnowsOwner types (owner.Common ty) = KnowsType types ty
KnowsOwner types (owner.Variant v) = KnowsVariant types v

-- the types and variants that a route names are in the table, where its parts are so
abbrev pub knows_node : List TypeEntry → Route-F Bool → Bool
knows_node types (Route-F.Down name) = true
knows_node types (Route-F.Up name) = true
knows_node types Route-F.UpAny = true
knows_node types Route-F.Root = true
knows_node types Route-F.Leaf = true
knows_node types (Route-F.IsType ty) = nat_lt ty.0 (length types)
knows_node types (Route-F.IsVariant v) = nat_lt v.index (variant_count types v.ty)
knows_node types (Route-F.IsBool name value) = true
knows_node types (Route-F.Then first second) = first && second
knows_node types (Route-F.Or one other) = one && other
knows_node types (Route-F.Star round) = round

-- the types and variants that a route names are in the table
abbrev pub KnowsRoute : List TypeEntry → Route → Type 0
KnowsRoute types along = IsTrue (fold-Route Bool (knows_node types) along)

-- the types and variants that a kind names are in the table
abbrev pub KnowsKind : List TypeEntry → FieldKind → Type 0
KnowsKind types field.Bool = Unit {0}
KnowsKind types (field.Data target) = KnowsType types target
KnowsKind types (field.Pointer target along) = KnowsType types target × KnowsRoute types along

-- ---- what a table is

-- no name stands twice
abbrev pub AreDistinct : List (List ℕ) → Type 0
AreDistinct [] = Unit {0}
AreDistinct (name ∷ names) = (place_of name names ≡ None) × AreDistinct names

-- a field is of a variant that its type has, and names what is in the table
pub record IsFieldEntry (types : List TypeEntry) (variants : ℕ) (f : FieldEntry) : Type 0 where
  pub owner : IfSome f.only (λ i. i < variants)
  pub kind : KnowsKind types f.kind

-- a type has at most 16 variants and 32 fields, each with a name of its own
pub record IsTypeEntry (types : List TypeEntry) (t : TypeEntry) : Type 0 where
  pub few_variants : length t.variants ≤ 16
  pub few_fields : length t.fields ≤ 32
  pub variants : AreDistinct t.variants
  pub names : AreDistinct (field_names t.fields)
  pub fields : AllByRecursion (IsFieldEntry types (count_of_variants t)) t.fields

-- every type has a name of its own, and names what is in the table
pub record IsTypeTable (types : List TypeEntry) : Type 0 where
  pub few : length types ≤ 4294967295
  pub names : AreDistinct (type_names types)
  pub each : AllByRecursion (IsTypeEntry types) types

-- every variable has a name of its own
pub record IsVarTable (vars : List VarEntry) : Type 0 where
  pub few : length vars ≤ 4294967295
  pub names : AreDistinct (var_names vars)

-- the types and variants that the variables' kinds name are in the table
abbrev pub KnowsVarKind : List TypeEntry → VarKind → Type 0
KnowsVarKind types var.Bool = Unit {0}
KnowsVarKind types (var.Data target) = KnowsType types target
KnowsVarKind types (var.Pointer target) = KnowsType types target
KnowsVarKind types (var.LogicSet target) = KnowsType types target
KnowsVarKind types var.LogicBool = Unit {0}

-- ---- a table with one thing more

-- the types, this one changed
abbrev pub with_type : List TypeEntry → TypeId → (TypeEntry → TypeEntry) → List TypeEntry
with_type types ty change = option_map_or (λ t. slice_set types ty.0 (change t)) (type_at types ty) types

-- the type of this name with the variant without a name and no field goes last
abbrev pub add_type : List TypeEntry → List ℕ → List TypeEntry
add_type types name = types ++ record { name = name; variants = []; fields = [] } ∷ []

-- the variant goes last in its type; the first takes the place of the variant without a name, and with it that variant's fields
abbrev pub add_variant : List TypeEntry → TypeId → List ℕ → List TypeEntry
add_variant types ty name = with_type types ty (λ t. record t { variants = t.variants ++ name ∷ [] })

-- the type of an owner
abbrev pub owner_type : Owner → TypeId
owner_type (owner.Common ty) = ty
owner_type (owner.Variant v) = v.ty

-- the one variant that an owner stands for
abbrev pub owner_only : Owner → Option ℕ
owner_only (owner.Common ty) = None
owner_only (owner.Variant v) = Some v.index

-- the field goes last in its type, whatever its owner
abbrev pub add_field : List TypeEntry → Owner → List ℕ → FieldKind → List TypeEntry
add_field types owner name kind =
    with_type types (owner_type owner) (λ t. record t { fields = t.fields ++ record { name = name; only = owner_only owner; kind = kind } ∷ [] })

-- the variable goes last
abbrev pub add_var : List VarEntry → List ℕ → VarKind → List VarEntry
add_var vars name kind = vars ++ record { name = name; kind = kind } ∷ []
