-- Names of fields, added in order.
use Rattle.std.proofs.Common.{◌≡◌, List, [], ◌∷◌, ◌++◌, refl, sym, ap, ◌∙◌, map, fold, flat_map, append_assoc}
use Rattle.pale_syntax.specs.declared.tree.declaration.FieldDeclaration.{FieldDeclaration}
use Rattle.pale_syntax.specs.declared.tree.declaration.FieldForm.{FieldForm}
use Rattle.pale_syntax.specs.declared.tree.declaration.FieldForm.TheVariants as form
use Rattle.pale_syntax.specs.declared.tree.names.Name.{Name}
use Rattle.pale_tables.specs.declared.type_names.TypeNames.{TypeNames}
use Rattle.pale_syntax.specs.declared.tree.declaration.TypeDeclaration.{TypeDeclaration}
use Rattle.pale_syntax.specs.declared.tree.declaration.VariantDeclaration.{VariantDeclaration}
use Rattle.pale_tables.specs.Names.{with_name, each_once}
use Rattle.pale_tables.specs.Types.{noted, with_variants, variant_name, fields_in, names_in}

-- one field, and then the others
noted_next : (name : Name) (f : FieldForm) (xs : List FieldDeclaration) (names : TypeNames) →
    noted (record { name = name; form = f } ∷ xs) names ≡ noted xs (noted (record { name = name; form = f } ∷ []) names)
noted_next name form.Bool xs names = refl
noted_next name (form.Data target) xs names = refl
noted_next name (form.Pointer target bracket along) xs names = refl

-- some fields, and then others
pub noted_append : (xs ys : List FieldDeclaration) (names : TypeNames) → noted (xs ++ ys) names ≡ noted ys (noted xs names)
noted_append [] ys names = refl
noted_append (x ∷ xs) ys names =
    noted_next x.name x.form (xs ++ ys) names ∙ noted_append xs ys (noted (x ∷ []) names) ∙ ap (noted ys) (sym (noted_next x.name x.form xs names))

-- ---- the names of types, added in order

-- the names with those of these types
abbrev pub with_types : List TypeDeclaration → TypeNames → TypeNames
with_types types names = record {
  types = fold with_name names.types (map (λ (t : TypeDeclaration). t.name.bytes) types);
  variants = names.variants ++ map (λ (t : TypeDeclaration). each_once (map variant_name t.variants)) types;
  bool_fields = (noted (flat_map fields_in types) names).bool_fields;
  data_fields = (noted (flat_map fields_in types) names).data_fields;
  pointer_fields = (noted (flat_map fields_in types) names).pointer_fields;
}

-- the names with those of one type
abbrev pub with_one : TypeDeclaration → TypeNames → TypeNames
with_one t names = with_variants t.variants (noted t.fields (record names { types = with_name names.types t.name.bytes }))

-- the fields of one type, and then those of the others
fields-next : (t : TypeDeclaration) (rest : List TypeDeclaration) (names : TypeNames) →
    noted (flat_map fields_in (t ∷ rest)) names
    ≡ noted (flat_map fields_in rest) (noted (flat_map (λ (v : VariantDeclaration). v.fields) t.variants) (noted t.fields names))
fields-next t rest names =
    noted_append (fields_in t) (flat_map fields_in rest) names
    ∙ ap (noted (flat_map fields_in rest)) (noted_append t.fields (flat_map (λ (v : VariantDeclaration). v.fields) t.variants) names)

same_names : (a b : TypeNames) → a.types ≡ b.types → a.variants ≡ b.variants → a.bool_fields ≡ b.bool_fields → a.data_fields ≡ b.data_fields →
    a.pointer_fields ≡ b.pointer_fields → a ≡ b
same_names a b p q r s t i = record { types = p i; variants = q i; bool_fields = r i; data_fields = s i; pointer_fields = t i }

-- one type, and then the others
pub types_next : (t : TypeDeclaration) (rest : List TypeDeclaration) (names : TypeNames) → with_types (t ∷ rest) names ≡ with_types rest (with_one t names)
types_next t rest names =
    same_names (with_types (t ∷ rest) names) (with_types rest (with_one t names))
    refl
    (sym (append_assoc names.variants (each_once (map variant_name t.variants) ∷ [])
    (map (λ (t : TypeDeclaration). each_once (map variant_name t.variants)) rest)))
    (ap (λ n. n.bool_fields) (fields-next t rest names))
    (ap (λ n. n.data_fields) (fields-next t rest names))
    (ap (λ n. n.pointer_fields) (fields-next t rest names))

-- all types, from no names on
pub types_all : (types : List TypeDeclaration) →
    with_types types (record { types = []; variants = []; bool_fields = []; data_fields = []; pointer_fields = [] }) ≡ names_in types
unfolding names_in
types_all types = refl
