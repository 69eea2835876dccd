-- The type table of declarations, and their faults.
use Rattle.std.specs.Prelude.{ℕ, ◌+◌, Bool, List, [], ◌∷◌, ◌++◌, map, flat_map, filter_map, fold, true, false, if◌then◌else◌, Option, Some, None}
use Rattle.pale_text.specs.declared.refusal.RefusalKind.TheVariants as kind
use Rattle.pale_syntax.specs.declared.tree.names.Name.{Name}
use Rattle.pale_syntax.specs.declared.tree.declaration.TypeDeclaration.{TypeDeclaration}
use Rattle.pale_syntax.specs.declared.tree.declaration.VariantDeclaration.{VariantDeclaration}
use Rattle.pale_syntax.specs.declared.tree.declaration.FieldDeclaration.{FieldDeclaration}
use Rattle.pale_syntax.specs.declared.tree.declaration.FieldForm.{FieldForm}
use Rattle.pale_syntax.specs.declared.tree.declaration.FieldForm.TheVariants as form
use Rattle.store_core.specs.declared.kind.FieldKind.{FieldKind}
use Rattle.store_core.specs.declared.kind.FieldKind.TheVariants as field
use Rattle.store_core.specs.Tables.{TypeEntry, FieldEntry}
use Rattle.pale_tables.specs.declared.type_names.TypeNames.{TypeNames}
use Rattle.pale_tables.specs.declared.type_names.Followed.TheVariants as followed
use Rattle.pale_tables.specs.declared.types.FieldRow.{FieldRow}
use Rattle.pale_tables.specs.declared.types.TypeRow.{TypeRow}
use Rattle.pale_tables.specs.Faults.{Fault, ◌>>◌, first_of}
use Rattle.pale_tables.specs.Names.{with_name, each_once, new_fault}
use Rattle.pale_tables.specs.Routes.{route_of, whole_route_fault, type_or_first, type_fault}

-- ---- the names

-- all fields of a type: the common ones first, and then those of each variant, in order of the text
abbrev pub fields_in : TypeDeclaration → List FieldDeclaration
fields_in t = t.fields ++ flat_map (λ (v : VariantDeclaration). v.fields) t.variants

abbrev pub name_if : Bool → FieldDeclaration → Option (List ℕ)
name_if is f = if is then Some f.name.bytes else None

abbrev pub is_bool : FieldForm → Bool
is_bool form.Bool = true
is_bool (form.Data target) = false
is_bool (form.Pointer target bracket along) = false

abbrev pub is_data : FieldForm → Bool
is_data form.Bool = false
is_data (form.Data target) = true
is_data (form.Pointer target bracket along) = false

abbrev pub is_pointer : FieldForm → Bool
is_pointer form.Bool = false
is_pointer (form.Data target) = false
is_pointer (form.Pointer target bracket along) = true

abbrev pub bool_name : FieldDeclaration → Option (List ℕ)
bool_name f = name_if (is_bool f.form) f

abbrev pub data_name : FieldDeclaration → Option (List ℕ)
data_name f = name_if (is_data f.form) f

abbrev pub pointer_name : FieldDeclaration → Option (List ℕ)
pointer_name f = name_if (is_pointer f.form) f

abbrev pub variant_name : VariantDeclaration → List ℕ
variant_name v = v.name.bytes

-- the names with those of these fields, each among those of its kind
abbrev pub noted : List FieldDeclaration → TypeNames → TypeNames
noted fields names = record names {
  bool_fields = fold with_name names.bool_fields (filter_map bool_name fields);
  data_fields = fold with_name names.data_fields (filter_map data_name fields);
  pointer_fields = fold with_name names.pointer_fields (filter_map pointer_name fields);
}

-- the names with those of the variants of one type more, and of their fields
abbrev pub with_variants : List VariantDeclaration → TypeNames → TypeNames
with_variants variants names =
    record (noted (flat_map (λ (v : VariantDeclaration). v.fields) variants) names) { variants = names.variants ++ each_once (map variant_name variants) ∷ [] }

-- the names that the declarations give
unfoldable pub names_in : List TypeDeclaration → TypeNames
names_in types = record {
  types = each_once (map (λ (t : TypeDeclaration). t.name.bytes) types);
  variants = map (λ (t : TypeDeclaration). each_once (map variant_name t.variants)) types;
  bool_fields = each_once (filter_map bool_name (flat_map fields_in types));
  data_fields = each_once (filter_map data_name (flat_map fields_in types));
  pointer_fields = each_once (filter_map pointer_name (flat_map fields_in types));
}

-- ---- the table

abbrev pub kind_of : TypeNames → FieldForm → FieldKind
kind_of names form.Bool = field.Bool
kind_of names (form.Data target) = field.Data (type_or_first names target)
kind_of names (form.Pointer target bracket along) = field.Pointer (type_or_first names target) (route_of names along)

-- a field that all variants have, or one alone
abbrev pub field_entry : TypeNames → Option ℕ → FieldDeclaration → FieldEntry
field_entry names only f = record { name = f.name.bytes; only = only; kind = kind_of names f.form }

-- the fields of each variant, the first of which has this index
abbrev pub variant_fields : TypeNames → ℕ → List VariantDeclaration → List FieldEntry
variant_fields names index [] = []
variant_fields names index (v ∷ variants) = map (field_entry names (Some index)) v.fields ++ variant_fields names (index + 1) variants

-- a type: its common fields first, and then those of each variant, in order of the text
abbrev pub type_entry : TypeNames → TypeDeclaration → TypeEntry
type_entry names t = record {
  name = t.name.bytes;
  variants = map variant_name t.variants;
  fields = map (field_entry names None) t.fields ++ variant_fields names 0 t.variants;
}

-- what a row of fields or of types says
abbrev pub field_row : FieldRow → FieldEntry
field_row row = record { name = row.name; only = row.only; kind = row.kind }

abbrev pub type_row : TypeRow → TypeEntry
type_row row = record { name = row.name; variants = row.variants; fields = map field_row row.fields }

-- the type table of the declarations
unfoldable pub type_table : List TypeDeclaration → List TypeEntry
type_table types = map (type_entry (names_in types)) types

-- ---- faults

-- the names of types: each is new, and there are at most 32
abbrev pub type_names_fault : List (List ℕ) → List Name → Fault
type_names_fault before [] = None
type_names_fault before (name ∷ names) =
    new_fault 32 kind.ManyTypes before name >> type_names_fault (before ++ name.bytes ∷ []) names

-- what a field holds: a type that is there, and a route over data fields
abbrev pub form_fault : TypeNames → FieldForm → Fault
form_fault names form.Bool = None
form_fault names (form.Data target) = type_fault names target
form_fault names (form.Pointer target bracket along) = type_fault names target >> whole_route_fault names followed.Data bracket along

-- a field after those with these names, in the whole type
abbrev pub field_fault : TypeNames → List (List ℕ) → FieldDeclaration → Fault
field_fault names before f =
    new_fault 32 kind.ManyFields before f.name >> form_fault names f.form

abbrev pub fields_fault : TypeNames → List (List ℕ) → List FieldDeclaration → Fault
fields_fault names before [] = None
fields_fault names before (f ∷ fields) = field_fault names before f >> fields_fault names (before ++ f.name.bytes ∷ []) fields

-- the names with those of these fields
abbrev pub with_fields : List (List ℕ) → List FieldDeclaration → List (List ℕ)
with_fields before fields = before ++ map (λ (f : FieldDeclaration). f.name.bytes) fields

-- variants after those with these names, where the type has fields of these names before: each one's name, and then its fields
abbrev pub variants_fault : TypeNames → List (List ℕ) → List (List ℕ) → List VariantDeclaration → Fault
variants_fault names fields before [] = None
variants_fault names fields before (v ∷ variants) =
    new_fault 16 kind.ManyVariants before v.name
    >> fields_fault names fields v.fields
    >> variants_fault names (with_fields fields v.fields) (before ++ v.name.bytes ∷ []) variants

-- a type: its common fields, and then each variant in order
unfoldable pub declaration_fault : TypeNames → TypeDeclaration → Fault
declaration_fault names t = fields_fault names [] t.fields >> variants_fault names (with_fields [] t.fields) [] t.variants

-- the types in order, once their names have no fault
unfoldable pub types_fault : List TypeDeclaration → Fault
types_fault types = first_of (declaration_fault (names_in types)) types
