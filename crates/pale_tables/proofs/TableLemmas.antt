-- The rows of declarations without a fault are a type table.
use Rattle.std.proofs.Common.{◌≡◌, ℕ, zero, suc, ◌+◌, ◌<◌, ◌≤◌, Bool, true, false, IsTrue, List, [], ◌∷◌, ◌++◌, length, map, Option, Some, None}
use Rattle.std.proofs.Common.{refl, sym, ap, ◌∙◌, subst, arith, slice_get, append_assoc, append-nil, is_none, is_some, nat_lt, cond, eqb, position, IfSome}
use Rattle.std.proofs.Common.{unwrap_or, length-append, fold}
use Rattle.std.proofs.lemmas.List.{length-map, length_push, map-append}
use Rattle.std.proofs.lemmas.Option.{slice_get-map}
use Rattle.std.specs.Option.{option_map_or, option_map, option_and_then}
use Rattle.std.specs.List.{AllByRecursion}
use Rattle.pale_text.specs.declared.place.Pos.{Pos}
use Rattle.pale_text.specs.declared.refusal.RefusalKind.{RefusalKind}
use Rattle.pale_text.specs.declared.refusal.RefusalKind.TheVariants as kind
use Rattle.pale_syntax.specs.declared.tree.names.Name.{Name}
use Rattle.pale_syntax.specs.declared.tree.declaration.TypeDeclaration.{TypeDeclaration}
use Rattle.pale_syntax.specs.declared.tree.declaration.VariantDeclaration.{VariantDeclaration}
use Rattle.pale_syntax.specs.declared.tree.declaration.FieldDeclaration.{FieldDeclaration}
use Rattle.pale_syntax.specs.declared.tree.declaration.FieldForm.{FieldForm}
use Rattle.pale_syntax.specs.declared.tree.declaration.FieldForm.TheVariants as form
use Rattle.store_core.specs.declared.ids.TypeId.{TypeId}
use Rattle.store_core.specs.declared.ids.VariantId.{VariantId}
use Rattle.store_core.specs.Tables.{TypeEntry, FieldEntry, KnowsType, KnowsVariant, KnowsKind, place_of, AreDistinct, field_names, type_names}
use Rattle.store_core.specs.Tables.{count_of_variants, IsFieldEntry, IsTypeEntry, IsTypeTable}
use Rattle.store_core.proofs.Names.{AreDistinct-push, position-cons}
use Rattle.pale_tables.specs.declared.type_names.TypeNames.{TypeNames}
use Rattle.pale_tables.specs.declared.type_names.Followed.TheVariants as followed
use Rattle.pale_tables.specs.Faults.{Fault, need, ◌>>◌, first_of}
use Rattle.pale_tables.specs.Names.{new_fault, with_name, each_once}
use Rattle.pale_tables.specs.Routes.{type_named, variant_named, type_or_first, type_fault}
use Rattle.pale_tables.specs.Types.{type_names_fault, form_fault, field_fault, fields_fault, with_fields, variants_fault, declaration_fault}
use Rattle.pale_tables.specs.Types.{kind_of, field_entry, variant_fields, variant_name, type_entry, names_in, type_table, types_fault}
use Rattle.pale_tables.proofs.KnownRoutes.{Covers, both, needed, names-of-whole, type-known, route-known, position-within}

record IsNew (most : ℕ) (before : List (List ℕ)) (name : List ℕ) : Type 0 where
  new : place_of name before ≡ None
  few : length before < most

without : {X : Type 0} (o : Option X) → is_none o ≡ true → o ≡ None
without None e = refl
without (Some x) e = absurd (cc)

new-name : (most : ℕ) (many : RefusalKind) (before : List (List ℕ)) (name : Name) → new_fault most many before name ≡ None → IsNew most before name.bytes
unfolding new_fault
new-name most many before name none =
    let parts = both _ _ none in
    let lt : nat_lt (length before) most ≡ true = needed _ _ _ parts.1 in
    record { new = without _ (needed _ _ _ parts.0); few = grind arith }

-- names that stand once, and of which there are few
abbrev Once : ℕ → List (List ℕ) → Type 0
Once most names = AreDistinct names × (length names ≤ most)

once-push : (most : ℕ) (names : List (List ℕ)) (name : List ℕ) → Once most names → IsNew most names name → Once most (names ++ name ∷ [])
once-push most names name once is =
    let few = is.few in
    (AreDistinct-push names name once.0 is.new, omega (arith, length_push names name))

once-nil : (most : ℕ) (names : List (List ℕ)) → Once most names → Once most (names ++ [])
once-nil most names once = subst (Once most) (sym (append-nil names)) once

pub names-once : (before : List (List ℕ)) (names : List Name) → Once 32 before → type_names_fault before names ≡ None →
    Once 32 (before ++ map (λ (n : Name). n.bytes) names)
names-once before [] once none = once-nil 32 before once
names-once before (name ∷ names) once none =
    let parts = both _ _ none in
    subst (Once 32) (append_assoc before (name.bytes ∷ []) (map (λ (n : Name). n.bytes) names))
    (names-once (before ++ name.bytes ∷ []) names (once-push 32 before name.bytes once (new-name 32 kind.ManyTypes before name parts.0)) parts.1)

counted : (n : ℕ) → n ≤ cond (eqb n 0) 1 n
counted n = grind arith

module _ (names : TypeNames) (types : List TypeEntry) (covers : Covers names types) where
  kind-known : (f : FieldForm) → form_fault names f ≡ None → KnowsKind types (kind_of names f)
  kind-known form.Bool none = tt
  kind-known (form.Data target) none = type-known names types covers target none
  kind-known (form.Pointer target bracket along) none =
      let parts = both _ _ none in (
        type-known names types covers target parts.0,
        route-known names types covers followed.Data along (names-of-whole names followed.Data bracket along parts.1),
      )

  -- ---- fields

  record FieldsFit (count : ℕ) (only : Option ℕ) (before : List (List ℕ)) (fields : List FieldDeclaration) : Type 0 where
    once : Once 32 (with_fields before fields)
    each : AllByRecursion (IsFieldEntry types count) (map (field_entry names only) fields)

  fields-fit : (count : ℕ) (only : Option ℕ) → IfSome only (λ i. i < count) → (before : List (List ℕ)) (fields : List FieldDeclaration) →
      Once 32 before → fields_fault names before fields ≡ None → FieldsFit count only before fields
  fields-fit count only owned before [] once none = record { once = once-nil 32 before once; each = tt }
  fields-fit count only owned before (f ∷ fields) once none =
      let parts = both _ _ none in
      let own = both _ _ parts.0 in
      let rest = fields-fit count only owned (before ++ f.name.bytes ∷ []) fields
      (once-push 32 before f.name.bytes once (new-name 32 kind.ManyFields before f.name own.0)) parts.1 in
      record {
        once = subst (Once 32) (append_assoc before (f.name.bytes ∷ []) (map (λ (g : FieldDeclaration). g.name.bytes) fields)) rest.once;
        each = (record { owner = owned; kind = kind-known f.form own.1 }, rest.each);
      }

  -- ---- variants

  all-append : {X : Type 0} (P : X → Type 0) (xs ys : List X) → AllByRecursion P xs → AllByRecursion P ys → AllByRecursion P (xs ++ ys)
  all-append P [] ys all more = more
  all-append P (x ∷ xs) ys all more = (all.0, all-append P xs ys all.1 more)

  names-of : (only : Option ℕ) (fields : List FieldDeclaration) →
      field_names (map (field_entry names only) fields) ≡ map (λ (f : FieldDeclaration). f.name.bytes) fields
  names-of only [] = refl
  names-of only (f ∷ fields) = ap (λ more. f.name.bytes ∷ more) (names-of only fields)

  record VariantsFit (count index : ℕ) (fields before : List (List ℕ)) (variants : List VariantDeclaration) : Type 0 where
    names_once : Once 16 (before ++ map variant_name variants)
    once : Once 32 (fields ++ field_names (variant_fields names index variants))
    each : AllByRecursion (IsFieldEntry types count) (variant_fields names index variants)

  variants-fit : (count index : ℕ) (fields before : List (List ℕ)) (variants : List VariantDeclaration) → index + length variants ≤ count →
      Once 32 fields → Once 16 before → variants_fault names fields before variants ≡ None → VariantsFit count index fields before variants
  variants-fit count index fields before [] room once named none = record {
    names_once = once-nil 16 before named;
    once = once-nil 32 fields once;
    each = tt;
  }
  variants-fit count index fields before (v ∷ variants) room once named none =
      let parts = both _ _ none in
      let inner = both _ _ parts.1 in
      let own = fields-fit count (Some index) (omega (arith, room)) fields v.fields once inner.0 in
      let rest = variants-fit count (index + 1) (with_fields fields v.fields) (before ++ v.name.bytes ∷ []) variants (omega (arith, room)) own.once
      (once-push 16 before v.name.bytes named (new-name 16 kind.ManyVariants before v.name parts.0)) inner.1 in
      let own_names = map (λ (f : FieldDeclaration). f.name.bytes) v.fields in
      let more = field_names (variant_fields names (index + 1) variants) in
      let same : field_names (variant_fields names index (v ∷ variants)) ≡ own_names ++ more =
      map-append (λ f. f.name) (map (field_entry names (Some index)) v.fields) (variant_fields names (index + 1) variants)
      ∙ ap (λ xs. xs ++ more) (names-of (Some index) v.fields) in
      record {
        names_once = subst (Once 16) (append_assoc before (v.name.bytes ∷ []) (map variant_name variants)) rest.names_once;
        once = subst (Once 32) (append_assoc fields own_names more ∙ ap (λ xs. fields ++ xs) (sym same)) rest.once;
        each = all-append (IsFieldEntry types count) (map (field_entry names (Some index)) v.fields)
            (variant_fields names (index + 1) variants) own.each rest.each;
      }

  -- ---- types

  type-fits : (t : TypeDeclaration) → declaration_fault names t ≡ None → IsTypeEntry types (type_entry names t)
  unfolding declaration_fault
  type-fits t none =
      let count = count_of_variants (type_entry names t) in
      let parts = both _ _ none in
      let room : 0 + length t.variants ≤ count = omega (arith, length-map t.variants variant_name, counted (length (map variant_name t.variants))) in
      let common = fields-fit count None tt [] t.fields (tt, omega arith) parts.0 in
      let own = variants-fit count 0 (with_fields [] t.fields) [] t.variants room common.once (tt, omega arith) parts.1 in
      let same : field_names (map (field_entry names None) t.fields ++ variant_fields names 0 t.variants)
      ≡ with_fields [] t.fields ++ field_names (variant_fields names 0 t.variants) =
      map-append (λ f. f.name) (map (field_entry names None) t.fields) (variant_fields names 0 t.variants)
      ∙ ap (λ xs. xs ++ field_names (variant_fields names 0 t.variants)) (names-of None t.fields) in
      let all : Once 32 (field_names (map (field_entry names None) t.fields ++ variant_fields names 0 t.variants)) = subst (Once 32) (sym same) own.once in
      record {
        few_variants = own.names_once.1;
        few_fields = subst (λ n. n ≤ 32) (length-map (map (field_entry names None) t.fields ++ variant_fields names 0 t.variants) (λ f. f.name)) all.1;
        variants = own.names_once.0;
        names = all.0;
        fields = all-append (IsFieldEntry types count) (map (field_entry names None) t.fields) (variant_fields names 0 t.variants) common.each own.each;
      }

  types-fit : (ts : List TypeDeclaration) → first_of (declaration_fault names) ts ≡ None → AllByRecursion (IsTypeEntry types) (map (type_entry names) ts)
  types-fit [] none = tt
  types-fit (t ∷ ts) none = let parts = both _ _ none in (type-fits t parts.0, types-fit ts parts.1)

-- ---- the names of the declarations and their table

with-length : (names : List (List ℕ)) (name : List ℕ) → length (with_name names name) ≤ length names + 1
with-length names name = by (is_none (place_of name names))
  where
    by : (b : Bool) → length (cond b (names ++ name ∷ []) names) ≤ length names + 1
    by true = omega (arith, length_push names name)
    by false = omega arith

once-length : (before names : List (List ℕ)) → length (fold with_name before names) ≤ length before + length names
once-length before [] = omega arith
once-length before (name ∷ names) =
    let rest : length (fold with_name (with_name before name) names) ≤ length (with_name before name) + length names =
    once-length (with_name before name) names in
    omega (arith, rest, with-length before name)

covers-variant : (ts : List TypeDeclaration) (names : TypeNames) (ty : TypeId) (name : List ℕ) (v : VariantId) →
    option_map (λ i. record { ty = ty; index = i })
    (option_and_then (place_of name) (slice_get (map (λ (t : TypeDeclaration). each_once (map variant_name t.variants)) ts) ty.0)) ≡ Some v →
    KnowsVariant (map (type_entry names) ts) v
covers-variant ts names ty name v at =
    by (slice_get ts ty.0)
    (sym (ap (λ o. option_map (λ i. record { ty = ty; index = i }) (option_and_then (place_of name) o))
    (slice_get-map (λ (t : TypeDeclaration). each_once (map variant_name t.variants)) ts ty.0)) ∙ at)
    (slice_get-map (type_entry names) ts ty.0)
  where
    inside : (t : TypeDeclaration) (o : Option ℕ) → place_of name (each_once (map variant_name t.variants)) ≡ o →
        option_map (λ i. record { ty = ty; index = i }) o ≡ Some v →
        slice_get (map (type_entry names) ts) ty.0 ≡ Some (type_entry names t) → KnowsVariant (map (type_entry names) ts) v
    inside t None found is there = absurd (cc)
    inside t (Some i) found is there =
        let same : record { ty = ty; index = i } ≡ v = cc in
        let low : i < length (each_once (map variant_name t.variants)) = position-within _ _ i found in
        let short = once-length [] (map variant_name t.variants) in
        let count = counted (length (map variant_name t.variants)) in
        let lt : i < count_of_variants (type_entry names t) = omega (arith, low, short, count) in
        subst (KnowsVariant (map (type_entry names) ts)) same
        (subst (λ o. i < option_map_or count_of_variants o 0) (sym there) lt)

    by : (o : Option TypeDeclaration) →
        option_map (λ i. record { ty = ty; index = i })
        (option_and_then (place_of name) (option_map (λ (t : TypeDeclaration). each_once (map variant_name t.variants)) o)) ≡ Some v →
        slice_get (map (type_entry names) ts) ty.0 ≡ option_map (type_entry names) o → KnowsVariant (map (type_entry names) ts) v
    by None is there = absurd (cc)
    by (Some t) is there = inside t _ refl is there

pub covers : (ts : List TypeDeclaration) → Covers (names_in ts) (type_table ts)
unfolding names_in type_table
covers ts = record {
  types = omega (
    arith,
    once-length [] (map (λ (t : TypeDeclaration). t.name.bytes) ts),
    length-map ts (λ (t : TypeDeclaration). t.name.bytes),
    length-map ts (type_entry (names_in ts)),
  );
  variants = λ ty name v at. covers-variant ts (names_in ts) ty name v at;
}

table-names : (ts : List TypeDeclaration) →
    map (λ (n : Name). n.bytes) (map (λ (t : TypeDeclaration). t.name) ts) ≡ type_names (type_table ts)
unfolding type_table
table-names ts = by (names_in ts) ts
  where
    by : (names : TypeNames) (ts : List TypeDeclaration) →
        map (λ (n : Name). n.bytes) (map (λ (t : TypeDeclaration). t.name) ts) ≡ type_names (map (type_entry names) ts)
    by names [] = refl
    by names (t ∷ ts) = ap (λ more. t.name.bytes ∷ more) (by names ts)

-- declarations without a fault are a type table
pub table_is : (ts : List TypeDeclaration) → type_names_fault [] (map (λ (t : TypeDeclaration). t.name) ts) ≡ None → types_fault ts ≡ None →
    IsTypeTable (type_table ts)
unfolding type_table types_fault
table_is ts named none =
    let once = subst (Once 32) (table-names ts) (names-once [] (map (λ (t : TypeDeclaration). t.name) ts) (tt, omega arith) named) in
    record {
      few = omega (arith, once.1, length-map (type_table ts) (λ (t : TypeEntry). t.name));
      names = once.0;
      each = types-fit (names_in ts) (type_table ts) (covers ts) ts none;
    }

-- and so are their rows, as they were read
pub rows_are : {X : Type 0} (types : List X) (now : X → TypeDeclaration) (names : TypeNames) (rows : List TypeEntry) → names ≡ names_in (map now types) →
    type_names_fault [] (map (λ t. (now t).name) types) ≡ None → first_of (declaration_fault names) (map now types) ≡ None →
    rows ≡ map (type_entry names) (map now types) → IsTypeTable rows
unfolding type_table types_fault
rows_are {X = X} types now names rows is named none read =
    let ts = map now types in
    subst IsTypeTable (sym (read ∙ ap (λ ns. map (type_entry ns) ts) is))
    (table_is ts (ap (type_names_fault []) (its-names types) ∙ named) (sym (ap (λ ns. first_of (declaration_fault ns) ts) is) ∙ none))
  where
    its-names : (xs : List X) → map (λ (t : TypeDeclaration). t.name) (map now xs) ≡ map (λ x. (now x).name) xs
    its-names [] = refl
    its-names (x ∷ xs) = ap (λ more. (now x).name ∷ more) (its-names xs)
