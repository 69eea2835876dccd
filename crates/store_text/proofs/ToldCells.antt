-- A cell that fits is read from the line that tells it.
use Rattle.std.proofs.Common.{◌≡◌, ℕ, zero, suc, ◌<◌, ◌==◌, ◌&&◌, Bool, true, false, cond, nat_lt, List, [], ◌∷◌, ◌++◌, length, map, slice_get}
use Rattle.std.proofs.Common.{slice_set, Option, Some, None, Ok, refl, sym, ap, ◌∙◌, subst, arith, append_assoc}
use Rattle.std.specs.Option.{option_map, option_map_or}
use Rattle.std.specs.List.{AllByRecursion}
use Rattle.std.proofs.lemmas.Option.{slice_get-map}
use Rattle.std.proofs.lemmas.List.{length_push}
use Rattle.store_core.specs.declared.ids.TypeId.{TypeId}
use Rattle.store_core.specs.declared.ids.VariantId.{VariantId}
use Rattle.store_core.specs.declared.ids.FieldId.{FieldId}
use Rattle.store_core.specs.declared.value.Value.{Value}
use Rattle.store_text.specs.declared.read.holds.Mention.{Mention}
use Rattle.store_text.specs.declared.read.spelled.CellLine.{CellLine}
use Rattle.store_core.specs.Tables.{TypeEntry, FieldEntry, fields_of, field_at, field_names, field_named, type_at, type_names, type_named}
use Rattle.store_core.specs.Tables.{variants_of, variant_count, place_of, is_had, has_field, KnowsVariant, AreDistinct}
use Rattle.store_core.specs.Stores.{StoreMap, CellEntry, SlotsFit, CellFits}
use Rattle.store_text.specs.Saying.{◌>>=◌, say_field, say_fields, cell_said, field_had, variant_named, named_in, mentions_of, field_holds}
use Rattle.store_core.proofs.Names.{place_of-at}
use Rattle.store_core.proofs.Adding.{at_known}
use Rattle.store_text.proofs.ReadValues.{Fine, HoldsFit, FieldFits-holds}
use Rattle.store_text.proofs.SpelledLines.{given, givens}
use Rattle.store_text.proofs.ToldValues.{slice_get-front, slice_set-front, value_told, value_fine, fine_append}

-- ---- the variant

-- the type that a known variant is of
pub type_known : (types : List TypeEntry) (v : VariantId) → KnowsVariant types v → (t : TypeEntry) × (type_at types v.ty ≡ Some t)
type_known types v known = within types v.ty.0 known
  where
    within : (types : List TypeEntry) (i : ℕ) {n : ℕ} → n < option_map_or (λ t. cond (length t.variants == 0) 1 (length t.variants))
        (slice_get types i) 0 → (t : TypeEntry) × (slice_get types i ≡ Some t)
    within [] i h = absurd (omega arith)
    within (t ∷ types) zero h = (t, refl)
    within (t ∷ types) (suc i) h = within types i h

pub type_told : (types : List TypeEntry) (ty : TypeId) (t : TypeEntry) → AreDistinct (type_names types) →
    type_at types ty ≡ Some t → type_named types t.name ≡ Some ty
type_told types ty t distinct at =
    ap (option_map (λ i. record { 0 = i }))
    (place_of-at (type_names types) ty.0 t.name distinct (slice_get-map (λ t. t.name) types ty.0 ∙ ap (option_map (λ t. t.name)) at))

-- the name that a known variant is told by gives it back
pub variant_told : (types : List TypeEntry) (v : VariantId) (t : TypeEntry) → type_at types v.ty ≡ Some t →
    AreDistinct t.variants → KnowsVariant types v → variant_named types v.ty (slice_get t.variants v.index) ≡ Ok v
variant_told types v t at distinct known = by t.variants refl
    (subst (λ (o : Option TypeEntry). v.index < option_map_or (λ t. cond (length t.variants == 0) 1 (length t.variants)) o 0) at known)
  where
    counted : (n i : ℕ) → i < cond (suc n == 0) 1 (suc n) → i < suc n
    counted n i h = grind arith

    by : (names : List (List ℕ)) → t.variants ≡ names → v.index < cond (length t.variants == 0) 1 (length t.variants) →
        variant_named types v.ty (slice_get t.variants v.index) ≡ Ok v
    by [] is known =
        let e : v.index < 1 = subst (λ (l : List (List ℕ)). v.index < cond (length l == 0) 1 (length l)) is known in
        let zero_is : 0 ≡ v.index = omega arith in
        ap (λ l. variant_named types v.ty (slice_get l v.index)) is
        ∙ ap (λ i. variant_named types v.ty (slice_get [] i)) (sym zero_is)
        ∙ rw at (rw is (ap (λ i. Ok (record { ty = v.ty; index = i })) zero_is))
    by (name ∷ names) is known =
        let e : v.index < length (name ∷ names) = counted (length names) v.index
        (subst (λ (l : List (List ℕ)). v.index < cond (length l == 0) 1 (length l)) is known) in
        let found = at_known (name ∷ names) v.index e in
        let there : slice_get t.variants v.index ≡ Some found.0 = ap (λ l. slice_get l v.index) is ∙ found.1 in
        let placed : place_of found.0 (variants_of types v.ty) ≡ Some v.index = rw at (place_of-at t.variants v.index found.0 distinct there) in
        ap (variant_named types v.ty) there ∙ rw placed refl

-- ---- the fields

-- a field of the variant is read from what is told of it
module _ (types : List TypeEntry) (s : StoreMap) (v : VariantId) (known : KnowsVariant types v)
    (distinct : AreDistinct (field_names (fields_of types v.ty))) where
  field_told : (front : List FieldEntry) (f : FieldEntry) (rest : List FieldEntry) → fields_of types v.ty ≡ front ++ f ∷ rest →
      field_named types v.ty f.name ≡ Some (record { ty = v.ty; index = length front })
  field_told front f rest is =
      ap (option_map (λ i. record { ty = v.ty; index = i }))
      (place_of-at (field_names (fields_of types v.ty)) (length front) f.name distinct
      (slice_get-map (λ f. f.name) (fields_of types v.ty) (length front) ∙ ap (option_map (λ f. f.name))
      (ap (λ l. slice_get l (length front)) is ∙ slice_get-front front f rest)))

  field_there : (front : List FieldEntry) (f : FieldEntry) (rest : List FieldEntry) → fields_of types v.ty ≡ front ++ f ∷ rest →
      field_at types (record { ty = v.ty; index = length front }) ≡ Some f
  field_there front f rest is = ap (λ l. slice_get l (length front)) is ∙ slice_get-front front f rest

  had_told : (front : List FieldEntry) (f : FieldEntry) (rest : List FieldEntry) → fields_of types v.ty ≡ front ++ f ∷ rest →
      is_had v.index f ≡ true → has_field types v (record { ty = v.ty; index = length front }) ≡ true
  had_told front f rest is had =
      ap (λ o. (v.ty.0 == v.ty.0) && (nat_lt v.index (variant_count types v.ty) && option_map_or (is_had v.index) o false)) (field_there front f rest is)
      ∙ three (v.ty.0 == v.ty.0) (nat_lt v.index (variant_count types v.ty)) (is_had v.index f) (same v.ty.0)
      (less v.index (variant_count types v.ty) known) had
    where
      three : (a b c : Bool) → a ≡ true → b ≡ true → c ≡ true → (a && (b && c)) ≡ true
      three a b c x y z = rw x (rw y z)

      same : (n : ℕ) → (n == n) ≡ true
      same n = grind arith

      less : (m n : ℕ) → m < n → nat_lt m n ≡ true
      less m n lt = grind arith

  field_step : (front : List FieldEntry) (f : FieldEntry) (rest : List FieldEntry) (done : List (Option Value)) (x : Value) →
      fields_of types v.ty ≡ front ++ f ∷ rest → length done ≡ length front
      → is_had v.index f ≡ true → HoldsFit s (field_holds f.kind) x → say_field types v (done ++ map (λ f. None) (f ∷ rest))
      (given f.name x) ≡ Ok (done ++ Some x ∷ map (λ f. None) rest)
  unfolding say_field field_had
  field_step front f rest done x is long had fits =
      let id : FieldId = record { ty = v.ty; index = length front } in
      let slots = done ++ None ∷ map (λ f. None) rest in
      let free : slice_get slots (length front) ≡ Some None = ap (slice_get slots) (sym long) ∙ slice_get-front done None (map (λ f. None) rest) in
      rw (field_told front f rest is) (rw (had_told front f rest is had)
      (rw (field_there front f rest is) (rw free (rw (value_told s (field_holds f.kind) x fits)
      (ap Ok (ap (λ i. slice_set slots i (Some x)) (sym long) ∙ slice_set-front done None (Some x) (map (λ f. None) rest)))))))

  fields_told : (rest : List FieldEntry) (slots : List (Option Value)) (front : List FieldEntry) (done : List (Option Value)) →
      fields_of types v.ty ≡ front ++ rest → length done ≡ length front
      → SlotsFit s v.index rest slots → say_fields types v (done ++ map (λ f. None) rest) (givens rest slots) ≡ Ok (done ++ slots)
  fields_told [] [] front done is long fits = refl
  fields_told [] (x ∷ slots) front done is long fits = absurd fits
  fields_told (f ∷ rest) [] front done is long fits = absurd fits
  fields_told (f ∷ rest) (None ∷ slots) front done is long fits =
      ap (λ l. say_fields types v l (givens rest slots)) (sym (append_assoc done (None ∷ []) (map (λ f. None) rest)))
      ∙ fields_told rest slots (front ++ f ∷ []) (done ++ None ∷ []) (is ∙ sym (append_assoc front (f ∷ []) rest)) (grown done None front f long) fits.1
      ∙ ap Ok (append_assoc done (None ∷ []) slots)
    where
      grown : {X Y : Type 0} (xs : List X) (x : X) (ys : List Y) (y : Y) → length xs ≡ length ys → length (xs ++ x ∷ []) ≡ length (ys ++ y ∷ [])
      grown xs x ys y e = omega (arith, length_push xs x, length_push ys y)
  fields_told (f ∷ rest) (Some x ∷ slots) front done is long fits =
      ap (λ r. r >>= (λ more. say_fields types v more (givens rest slots)))
      (field_step front f rest done x is long fits.0.0 ((FieldFits-holds s f.kind x).0 fits.0.1))
      ∙ ap (λ l. say_fields types v l (givens rest slots)) (sym (append_assoc done (Some x ∷ []) (map (λ f. None) rest)))
      ∙ fields_told rest slots (front ++ f ∷ []) (done ++ Some x ∷ []) (is ∙ sym (append_assoc front (f ∷ []) rest)) (grown done (Some x) front f long) fits.1
      ∙ ap Ok (append_assoc done (Some x ∷ []) slots)
    where
      grown : {X Y : Type 0} (xs : List X) (x : X) (ys : List Y) (y : Y) → length xs ≡ length ys → length (xs ++ x ∷ []) ≡ length (ys ++ y ∷ [])
      grown xs x ys y e = omega (arith, length_push xs x, length_push ys y)

-- what the fields name
record FineNames (s : StoreMap) (n index : ℕ) (fields : List FieldEntry) (slots : List (Option Value)) : Type 0 where
  named : List Mention
  is : named_in n index fields slots ≡ Some named
  fine : AllByRecursion (Fine s) named

names_fine : (s : StoreMap) (n index : ℕ) (fields : List FieldEntry) (slots : List (Option Value)) →
    SlotsFit s index fields slots → FineNames s n index fields slots
names_fine s n index [] [] fits = record { named = []; is = refl; fine = tt }
names_fine s n index [] (x ∷ slots) fits = absurd fits
names_fine s n index (f ∷ fields) [] fits = absurd fits
names_fine s n index (f ∷ fields) (None ∷ slots) fits = let rest = names_fine s n index fields slots fits.1 in
    record { named = rest.named; is = rw fits.0 (ap (option_map (λ more. [] ++ more)) rest.is); fine = rest.fine }
names_fine s n index (f ∷ fields) (Some x ∷ slots) fits =
    let rest = names_fine s n index fields slots fits.1 in
    record {
      named = mentions_of n (field_holds f.kind) x ++ rest.named;
      is = ap (option_map (λ more. mentions_of n (field_holds f.kind) x ++ more)) rest.is;
      fine = fine_append s (mentions_of n (field_holds f.kind) x) rest.named
          (value_fine s n (field_holds f.kind) x ((FieldFits-holds s f.kind x).0 fits.0.1)) rest.fine;
    }

-- ---- a cell

-- the cell, and what it names is no fault
pub record CellTold (types : List TypeEntry) (s : StoreMap) (n : ℕ) (line : CellLine) (cell : CellEntry) : Type 0 where
  pub named : List Mention
  pub is : cell_said types n line ≡ Ok (cell, named)
  pub fine : AllByRecursion (Fine s) named

pub cell_back : (types : List TypeEntry) (s : StoreMap) (n number : ℕ) (cell : CellEntry) (t : TypeEntry) →
    AreDistinct (type_names types) → type_at types cell.variant.ty ≡ Some t → AreDistinct t.variants
    → AreDistinct (field_names t.fields) → CellFits types s cell
    → CellTold types s n (record {
      number = number;
      ty = t.name;
      variant = slice_get t.variants cell.variant.index;
      fields = givens (fields_of types cell.variant.ty) cell.values;
    }) cell
unfolding cell_said
cell_back types s n number cell t distinct at variants fields fits =
    let v = cell.variant in
    let names = names_fine s n v.index (fields_of types v.ty) cell.values fits.values in
    let own = subst (λ (o : Option TypeEntry). AreDistinct (field_names (option_map_or (λ t. t.fields) o []))) (sym at) fields in
    let said = fields_told types s v fits.variant own (fields_of types v.ty) cell.values [] [] refl refl fits.values in
    record {
      named = names.named;
      is = rw (type_told types v.ty t distinct at) (rw (variant_told types v t at variants fits.variant) (rw said (rw names.is refl)));
      fine = names.fine;
    }
