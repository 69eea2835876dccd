-- A table with a type, a variant or a field more is a table.
use Rattle.std.proofs.Common.{◌≡◌, ℕ, zero, suc, ◌+◌, ◌<◌, ◌≤◌, List, [], ◌∷◌, ◌++◌, length, set, Option, Some, None, refl, sym, ap, subst, arith}
use Rattle.std.proofs.Common.{slice_get, eqb, cond, IfSome}
use Rattle.std.proofs.lemmas.List.{length_push, map_push}
use Rattle.std.specs.Option.{option_map_or}
use Rattle.store_core.specs.declared.ids.TypeId.{TypeId}
use Rattle.store_core.specs.declared.kind.FieldKind.{FieldKind}
use Rattle.store_core.specs.declared.kind.Owner.{Owner}
use Rattle.store_core.specs.declared.kind.Owner.TheVariants as owner
use Rattle.store_core.specs.Tables.{TypeEntry, FieldEntry, KnowsType, KnowsOwner, KnowsKind, count_of_variants, type_names, field_names, type_at}
use Rattle.store_core.specs.Tables.{variants_of, fields_of, place_of, with_type, add_type, add_variant, add_field, owner_type, owner_only}
use Rattle.store_core.specs.Tables.{IsFieldEntry, IsTypeEntry, IsTypeTable, AreDistinct}
use Rattle.store_core.proofs.Names.{AreDistinct-push}
use Rattle.store_core.proofs.Growing.{Grows, Grows-set, IsFieldEntry-grows, IsTypeTable-push, IsTypeTable-set, AllByRecursion-weaker, AllByRecursion-push}
use Rattle.store_core.proofs.Bodies.{AllByRecursion-at}

-- a place within a list has an element
pub at_known : {X : Type 0} (xs : List X) (i : ℕ) → i < length xs → (x : X) × (slice_get xs i ≡ Some x)
at_known [] i h = absurd (omega arith)
at_known (x ∷ xs) zero h = (x, refl)
at_known (x ∷ xs) (suc i) h = at_known xs i (omega arith)

pub IsTypeTable-add_type : (types : List TypeEntry) (name : List ℕ) → IsTypeTable types → length types < 4294967295 →
    place_of name (type_names types) ≡ None → IsTypeTable (add_type types name)
IsTypeTable-add_type types name table room new =
    IsTypeTable-push types (record { name = name; variants = []; fields = [] }) table room (AreDistinct-push (type_names types) name table.names new)
    (record { few_variants = omega arith; few_fields = omega arith; variants = tt; names = tt; fields = tt })

-- one more name never makes fewer variants
pub more_variants : (t : TypeEntry) (name : List ℕ) → count_of_variants t ≤ count_of_variants (record t { variants = t.variants ++ name ∷ [] })
more_variants t name = counted (length t.variants) (length (t.variants ++ name ∷ [])) (length_push t.variants name)
  where
    counted : (m n : ℕ) → n ≡ m + 1 → (cond (eqb m 0) 1 m) ≤ (cond (eqb n 0) 1 n)
    counted m n is = grind arith

module _ (types : List TypeEntry) (ty : TypeId) (t : TypeEntry) (table : IsTypeTable types) (at : type_at types ty ≡ Some t) where
  entry : IsTypeEntry types t
  entry = AllByRecursion-at (IsTypeEntry types) types ty.0 t table.each at

  variant_added : (name : List ℕ) → length t.variants < 16 → place_of name t.variants ≡ None →
      IsTypeTable (set types ty.0 (record t { variants = t.variants ++ name ∷ [] }))
  unfolding entry
  variant_added name room new =
      let u : TypeEntry = record t { variants = t.variants ++ name ∷ [] } in
      let grows : Grows types (set types ty.0 u) = Grows-set types ty.0 t u at (more_variants t name) in
      IsTypeTable-set types ty.0 t u table at refl (more_variants t name) (record {
        few_variants = omega (arith, length_push t.variants name);
        few_fields = entry.few_fields;
        variants = AreDistinct-push t.variants name entry.variants new;
        names = entry.names;
        fields = AllByRecursion-weaker _ _ (IsFieldEntry-grows types (set types ty.0 u) grows (count_of_variants t)
            (count_of_variants u) (more_variants t name)) t.fields entry.fields;
      })

  field_added : (f : FieldEntry) → length t.fields < 32 → place_of f.name (field_names t.fields) ≡ None → IsFieldEntry types (count_of_variants t) f
      → IsTypeTable (set types ty.0 (record t { fields = t.fields ++ f ∷ [] }))
  unfolding entry
  field_added f room new is =
      let u : TypeEntry = record t { fields = t.fields ++ f ∷ [] } in
      let grows : Grows types (set types ty.0 u) = Grows-set types ty.0 t u at (omega arith) in
      let stays = IsFieldEntry-grows types (set types ty.0 u) grows (count_of_variants t) (count_of_variants t) (omega arith) in
      IsTypeTable-set types ty.0 t u table at refl (omega arith) (record {
        few_variants = entry.few_variants;
        few_fields = omega (arith, length_push t.fields f);
        variants = entry.variants;
        names = subst AreDistinct (sym (map_push (λ g. g.name) t.fields f)) (AreDistinct-push (field_names t.fields) f.name entry.names new);
        fields = AllByRecursion-push _ t.fields f (AllByRecursion-weaker _ _ stays t.fields entry.fields) (stays f is);
      })

with_type-at : (types : List TypeEntry) (ty : TypeId) (t : TypeEntry) (change : TypeEntry → TypeEntry) →
    type_at types ty ≡ Some t → with_type types ty change ≡ set types ty.0 (change t)
with_type-at types ty t change at = ap (λ o. option_map_or (λ u. set types ty.0 (change u)) o types) at

variants_at : (types : List TypeEntry) (ty : TypeId) (t : TypeEntry) → type_at types ty ≡ Some t → variants_of types ty ≡ t.variants
variants_at types ty t at = ap (λ o. option_map_or (λ u. u.variants) o []) at

fields_at : (types : List TypeEntry) (ty : TypeId) (t : TypeEntry) → type_at types ty ≡ Some t → fields_of types ty ≡ t.fields
fields_at types ty t at = ap (λ o. option_map_or (λ u. u.fields) o []) at

pub IsTypeTable-add_variant : (types : List TypeEntry) (ty : TypeId) (name : List ℕ) → IsTypeTable types → KnowsType types ty →
    place_of name (variants_of types ty) ≡ None
    → length (variants_of types ty) < 16 → IsTypeTable (add_variant types ty name)
IsTypeTable-add_variant types ty name table known new room =
    let found = at_known types ty.0 known in
    let t = found.0 in
    let is : variants_of types ty ≡ t.variants = variants_at types ty t found.1 in
    subst IsTypeTable (sym (with_type-at types ty t (λ u. record u { variants = u.variants ++ name ∷ [] }) found.1))
    (variant_added types ty t table found.1 name (subst (λ (names : List (List ℕ)). length names < 16) is room)
    (subst (λ (names : List (List ℕ)). place_of name names ≡ None) is new))

owner_known : (types : List TypeEntry) (owner : Owner) → KnowsOwner types owner → KnowsType types (owner_type owner)
owner_known types (owner.Common ty) known = known
owner_known types (owner.Variant v) known = within types v.ty.0 known
  where
    within : (types : List TypeEntry) (i : ℕ) {n : ℕ} → n < option_map_or count_of_variants (slice_get types i) 0 → i < length types
    within [] i h = absurd (omega arith)
    within (t ∷ types) zero h = omega arith
    within (t ∷ types) (suc i) h = let rest = within types i h in omega arith

owner_within : (types : List TypeEntry) (owner : Owner) (t : TypeEntry) → type_at types (owner_type owner) ≡ Some t →
    KnowsOwner types owner → IfSome (owner_only owner) (λ i. i < count_of_variants t)
owner_within types (owner.Common ty) t at known = tt
owner_within types (owner.Variant v) t at known = subst (λ (o : Option TypeEntry). v.index < option_map_or count_of_variants o 0) at known

pub IsTypeTable-add_field : (types : List TypeEntry) (owner : Owner) (name : List ℕ) (kind : FieldKind) → IsTypeTable types →
    KnowsOwner types owner → KnowsKind types kind
    → place_of name (field_names (fields_of types (owner_type owner))) ≡ None → length (fields_of types (owner_type owner)) < 32 →
    IsTypeTable (add_field types owner name kind)
IsTypeTable-add_field types owner name kind table known kinds new room =
    let ty = owner_type owner in
    let found = at_known types ty.0 (owner_known types owner known) in
    let t = found.0 in
    let is : fields_of types ty ≡ t.fields = fields_at types ty t found.1 in
    let f : FieldEntry = record { name = name; only = owner_only owner; kind = kind } in
    subst IsTypeTable (sym (with_type-at types ty t (λ u. record u { fields = u.fields ++ f ∷ [] }) found.1))
    (field_added types ty t table found.1 f (subst (λ (fields : List FieldEntry). length fields < 32) is room)
    (subst (λ (fields : List FieldEntry). place_of name (field_names fields) ≡ None) is new)
    (record { owner = owner_within types owner t found.1 known; kind = kinds }))
