-- The names that declarations give are those of their table.
use Rattle.std.proofs.Common.{◌≡◌, ◌⊎◌, inl, inr, ℕ, ◌+◌, Bool, true, false, ◌||◌, List, [], ◌∷◌, ◌++◌, map, flat_map}
use Rattle.std.proofs.Common.{slice_get, is_some, IfSome, IsSomeAnd, Option, Some, None, refl, sym, ap, ◌∙◌, subst, arith}
use Rattle.std.specs.Option.{option_map, option_map_or}
use Rattle.std.specs.List.{filter_map}
use Rattle.pale_syntax.specs.declared.tree.declaration.TypeDeclaration.{TypeDeclaration}
use Rattle.pale_syntax.specs.declared.tree.declaration.VariantDeclaration.{VariantDeclaration}
use Rattle.pale_syntax.specs.declared.tree.declaration.FieldDeclaration.{FieldDeclaration}
use Rattle.pale_syntax.specs.declared.tree.declaration.FieldForm.{FieldForm}
use Rattle.pale_syntax.specs.declared.tree.declaration.FieldForm.TheVariants as form
use Rattle.store_core.specs.declared.ids.TypeId.{TypeId}
use Rattle.store_core.specs.declared.ids.VariantId.{VariantId}
use Rattle.store_core.specs.declared.kind.FieldKind.{FieldKind}
use Rattle.store_core.specs.Tables.{TypeEntry, FieldEntry, KnowsType, KnowsVariant, place_of, fields_of}
use Rattle.routing_walks.specs.Walks.{DataAndPointers, IsFollowed}
use Rattle.store_logic.specs.Fits.{HasFieldNamed, IsBoolField}
use Rattle.pale_tables.specs.declared.type_names.TypeNames.{TypeNames}
use Rattle.pale_tables.specs.Names.{each_once}
use Rattle.pale_tables.specs.Routes.{type_named, variant_named, is_among}
use Rattle.pale_tables.specs.Types.{fields_in, name_if, is_bool, is_data, is_pointer, bool_name, data_name, pointer_name, kind_of, field_entry}
use Rattle.pale_tables.specs.Types.{variant_fields, type_entry, names_in, type_table}
use Rattle.pale_tables.proofs.KnownRoutes.{Covers, position-within}
use Rattle.pale_tables.proofs.TableLemmas.{covers}
use Rattle.pale_fitting.specs.Naming.{AreNamesOf}
use Rattle.pale_fitting.proofs.FoundLemmas.{IsFound, in-append, to-first, to-second, in-flat, found-map, in-filter, from-once}

-- ---- types and variants

type-there : (types : List TypeEntry) (names : TypeNames) → Covers names types → (name : List ℕ) → IfSome (type_named names name) (KnowsType types)
type-there types names all name = by (place_of name names.types) refl
  where
    by : (o : Option ℕ) → place_of name names.types ≡ o → IfSome (option_map (λ i. record { 0 = i }) o) (KnowsType types)
    by None at = tt
    by (Some i) at = let low = position-within _ names.types i at in let more = all.types in omega (arith, low, more)

variant-there : (types : List TypeEntry) (names : TypeNames) → Covers names types → (ty : TypeId) (name : List ℕ) →
    IfSome (variant_named names ty name) (KnowsVariant types)
variant-there types names all ty name = by (variant_named names ty name) refl
  where
    by : (o : Option VariantId) → variant_named names ty name ≡ o → IfSome o (KnowsVariant types)
    by None at = tt
    by (Some v) at = all.variants ty name v at

-- ---- fields

-- the fields of a declaration, in its type
module _ (names : TypeNames) (P : FieldDeclaration → Type 0) (Q : FieldEntry → Type 0)
    (so : (only : Option ℕ) (f : FieldDeclaration) → P f → Q (field_entry names only f))
  where
    in-variants : (index : ℕ) (variants : List VariantDeclaration) → IsFound P (flat_map (λ (v : VariantDeclaration). v.fields) variants) →
        IsFound Q (variant_fields names index variants)
    in-variants index [] f = let no : None ≡ Some f.item = f.at in absurd cc
    in-variants index (v ∷ variants) f =
        by (in-variants (index + 1) variants) (in-append P v.fields (flat_map (λ (w : VariantDeclaration). w.fields) variants) f)
      where
        by : (IsFound P (flat_map (λ (w : VariantDeclaration). w.fields) variants) → IsFound Q (variant_fields names (index + 1) variants)) →
            IsFound P v.fields ⊎ IsFound P (flat_map (λ (w : VariantDeclaration). w.fields) variants) →
            IsFound Q (map (field_entry names (Some index)) v.fields ++ variant_fields names (index + 1) variants)
        by rest (inl here) = to-first Q (map (field_entry names (Some index)) v.fields) (variant_fields names (index + 1) variants)
            (found-map P Q (field_entry names (Some index)) (so (Some index)) v.fields here)
        by rest (inr later) = to-second Q (map (field_entry names (Some index)) v.fields) (variant_fields names (index + 1) variants) (rest later)

    in-type : (t : TypeDeclaration) → IsFound P (fields_in t) → IsFound Q ((type_entry names t).fields)
    in-type t f = by (in-append P t.fields (flat_map (λ (v : VariantDeclaration). v.fields) t.variants) f)
      where
        by : IsFound P t.fields ⊎ IsFound P (flat_map (λ (v : VariantDeclaration). v.fields) t.variants) →
            IsFound Q (map (field_entry names None) t.fields ++ variant_fields names 0 t.variants)
        by (inl common) = to-first Q (map (field_entry names None) t.fields) (variant_fields names 0 t.variants)
            (found-map P Q (field_entry names None) (so None) t.fields common)
        by (inr own) = to-second Q (map (field_entry names None) t.fields) (variant_fields names 0 t.variants) (in-variants 0 t.variants own)

-- a field of the name, of a kind that this is so of
abbrev Suits : (FieldKind → Type 0) → List ℕ → FieldEntry → Type 0
Suits IsSo name e = (e.name ≡ name) × IsSo e.kind

field-in : (IsSo : FieldKind → Type 0) (name : List ℕ) (types : List TypeEntry) → IsFound (λ t. IsFound (Suits IsSo name) t.fields) types →
    HasFieldNamed types IsSo name
field-in IsSo name types f =
    let entry = f.so in
    let at : slice_get (fields_of types (record { 0 = f.place })) entry.place ≡ Some entry.item =
    ap (λ (o : Option TypeEntry). slice_get (option_map_or (λ (t : TypeEntry). t.fields) o []) entry.place) f.at ∙ entry.at in
    record {
      field = record { ty = record { 0 = f.place }; index = entry.place };
      named = subst (λ (o : Option FieldEntry). IsSomeAnd o (λ e. e.name ≡ name)) (sym at) entry.so.0;
      kind = subst (λ (o : Option FieldEntry). IsSomeAnd o (λ e. IsSo e.kind)) (sym at) entry.so.1;
    }

module _ (ts : List TypeDeclaration) (names : TypeNames) (IsSo : FieldKind → Type 0) (g : FieldDeclaration → Option (List ℕ))
    (so : (name : List ℕ) (only : Option ℕ) (f : FieldDeclaration) → g f ≡ Some name → Suits IsSo name (field_entry names only f)) where
  came : (name : List ℕ) (i : ℕ) → place_of name (each_once (filter_map g (flat_map fields_in ts))) ≡ Some i →
      HasFieldNamed (map (type_entry names) ts) IsSo name
  came name i at =
      field-in IsSo name (map (type_entry names) ts)
      (found-map (λ (t : TypeDeclaration). IsFound (λ f. g f ≡ Some name) (fields_in t)) (λ (t : TypeEntry). IsFound (Suits IsSo name) t.fields)
      (type_entry names)
      (in-type names (λ f. g f ≡ Some name) (Suits IsSo name) (so name)) ts
      (in-flat (λ f. g f ≡ Some name) fields_in ts
      (in-filter g (flat_map fields_in ts) name (from-once (filter_map g (flat_map fields_in ts)) name i at))))

  among : (name : List ℕ) → is_among (each_once (filter_map g (flat_map fields_in ts))) name ≡ true → HasFieldNamed (map (type_entry names) ts) IsSo name
  among name is = by (place_of name (each_once (filter_map g (flat_map fields_in ts)))) refl is
    where
      by : (o : Option ℕ) → place_of name (each_once (filter_map g (flat_map fields_in ts))) ≡ o → is_some o ≡ true →
          HasFieldNamed (map (type_entry names) ts) IsSo name
      by None at is = absurd cc
      by (Some i) at is = came name i at

bool-so : (names : TypeNames) (name : List ℕ) (only : Option ℕ) (f : FieldDeclaration) → bool_name f ≡ Some name →
    Suits IsBoolField name (field_entry names only f)
bool-so names name only f is = by f.form is
  where
    by : (g : FieldForm) → name_if (is_bool g) f ≡ Some name → (f.name.bytes ≡ name) × IsBoolField (kind_of names g)
    by form.Bool is = (cc, tt)
    by (form.Data target) is = absurd cc
    by (form.Pointer target bracket along) is = absurd cc

data-so : (names : TypeNames) (name : List ℕ) (only : Option ℕ) (f : FieldDeclaration) → data_name f ≡ Some name →
    Suits (IsFollowed DataAndPointers) name (field_entry names only f)
data-so names name only f is = by f.form is
  where
    by : (g : FieldForm) → name_if (is_data g) f ≡ Some name → (f.name.bytes ≡ name) × IsFollowed DataAndPointers (kind_of names g)
    by form.Bool is = absurd cc
    by (form.Data target) is = (cc, tt)
    by (form.Pointer target bracket along) is = absurd cc

pointer-so : (names : TypeNames) (name : List ℕ) (only : Option ℕ) (f : FieldDeclaration) → pointer_name f ≡ Some name →
    Suits (IsFollowed DataAndPointers) name (field_entry names only f)
pointer-so names name only f is = by f.form is
  where
    by : (g : FieldForm) → name_if (is_pointer g) f ≡ Some name → (f.name.bytes ≡ name) × IsFollowed DataAndPointers (kind_of names g)
    by form.Bool is = absurd cc
    by (form.Data target) is = absurd cc
    by (form.Pointer target bracket along) is = (cc, tt)

either : (a b : Bool) → (a || b) ≡ true → (a ≡ true) ⊎ (b ≡ true)
either true b is = inl refl
either false b is = inr is

pub names-of : (ts : List TypeDeclaration) → AreNamesOf (type_table ts) (names_in ts)
unfolding type_table names_in
names-of ts =
    let all : Covers (names_in ts) (type_table ts) = covers ts in record {
      type = type-there (type_table ts) (names_in ts) all;
      variant = variant-there (type_table ts) (names_in ts) all;
      followed = λ name is. by name (either (is_among (names_in ts).data_fields name) (is_among (names_in ts).pointer_fields name) is);
      bool = λ name is. among ts (names_in ts) IsBoolField bool_name (bool-so (names_in ts)) name is;
    }
  where
    by : (name : List ℕ) → (is_among (each_once (filter_map data_name (flat_map fields_in ts))) name ≡ true) ⊎
        (is_among (each_once (filter_map pointer_name (flat_map fields_in ts))) name ≡ true) →
        HasFieldNamed (map (type_entry (names_in ts)) ts) (IsFollowed DataAndPointers) name
    by name (inl is) = among ts (names_in ts) (IsFollowed DataAndPointers) data_name (data-so (names_in ts)) name is
    by name (inr is) = among ts (names_in ts) (IsFollowed DataAndPointers) pointer_name (pointer-so (names_in ts)) name is
