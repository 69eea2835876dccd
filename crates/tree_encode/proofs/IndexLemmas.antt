-- On lists of values at numbers, and on counts before a place.
use Rattle.std.proofs.Common.{◌≡◌, ℕ, zero, suc, ◌+◌, ◌<◌, ◌≤◌, Bool, true, false, cond, inl, inr, List, [], ◌∷◌, ◌++◌, length, take, slice_get, get_or, Option}
use Rattle.std.proofs.Common.{Some, refl, sym, ap, ◌∙◌, subst, append-nil, length-append, arith}
use Rattle.std.specs.Prelude.{sum_by, count_by, flat_map, option_map}
use Rattle.std.specs.Option.{option_map_or}
use Rattle.std.proofs.lemmas.Bool.{cases_eq}
use Rattle.std.proofs.lemmas.List.{length_push}
use Rattle.std.proofs.lemmas.Option.{slice_get_cases, slice_get_within, get_or_from_slice_get}
use Rattle.std.proofs.lemmas.List.Sums.{sum_by_more, sum_by_more_le, sum_by-take-le, sum_by-cons}
use Rattle.std.proofs.lemmas.Grind.{flat_map-append}
use Rattle.std.proofs.lemmas.List.Concat.{flat_map-cons}
use Rattle.std.proofs.Math.Seq.{take-length}
use Rattle.store_core.specs.declared.ids.TypeId.{TypeId}
use Rattle.store_core.specs.declared.kind.FieldKind.{FieldKind}
use Rattle.store_core.specs.declared.kind.FieldKind.TheVariants as field
use Rattle.store_core.specs.Tables.{TypeEntry, FieldEntry, KnowsType, count_of_variants, variant_count, fields_of}
use Rattle.tree_encode.specs.declared.counting.Counted.TheVariants.{Bools, Children}
use Rattle.tree_encode.specs.declared.index.First.{First}
use Rattle.tree_encode.specs.Counting.{counts, is_counted, counted_in, variants_in, bools_in}
use Rattle.tree_encode.specs.Spaces.{row_length, spaces_in, field_targets, child_types}
use Rattle.tree_encode.specs.Layouts.{IsTabled, first_at}

-- ---- values at numbers

pushed_last : {X : Type 0} (xs : List X) (y : X) → slice_get (xs ++ y ∷ []) (length xs) ≡ Some y
pushed_last [] y = refl
pushed_last (x ∷ xs) y = pushed_last xs y

pushed_earlier : {X : Type 0} (xs ys : List X) (k : ℕ) → k < length xs → slice_get (xs ++ ys) k ≡ slice_get xs k
pushed_earlier [] ys k inside = absurd (omega arith)
pushed_earlier (x ∷ xs) ys zero inside = refl
pushed_earlier (x ∷ xs) ys (suc k) inside = pushed_earlier xs ys k (omega arith)

pub IsTabled-none : {X : Type 0} (f : ℕ → X) → IsTabled f 0 []
IsTabled-none f = record { count = refl; each = λ k inside. absurd (omega arith) }

pub IsTabled-push : {X : Type 0} (f : ℕ → X) (n m : ℕ) (xs : List X) (y : X) → IsTabled f n xs → y ≡ f n → m ≡ suc n →
    IsTabled f m (xs ++ y ∷ [])
IsTabled-push {X} f n m xs y tabled is next = record {
  count = length_push xs y ∙ (let e : length xs + 1 ≡ m = omega (arith, tabled.count, next) in e);
  each = at;
}
  where
    last : (k : ℕ) → k ≡ n → slice_get (xs ++ y ∷ []) k ≡ Some (f k)
    last k e =
        ap (λ j. slice_get (xs ++ y ∷ []) j) (e ∙ sym tabled.count) ∙ pushed_last xs y ∙ ap (λ v. Some v) is ∙ ap (λ j. Some (f j)) (sym e)

    before : (k : ℕ) → k < n → slice_get (xs ++ y ∷ []) k ≡ Some (f k)
    before k inside = pushed_earlier xs (y ∷ []) k (omega (arith, inside, tabled.count)) ∙ tabled.each k inside

    at : (k : ℕ) → k < m → slice_get (xs ++ y ∷ []) k ≡ Some (f k)
    at k inside = elim (cases_eq k n) as (λ _. slice_get (xs ++ y ∷ []) k ≡ Some (f k)) [
      | inl here ↦ last k here
      | inr apart ↦ before k (omega (arith, inside, next, apart))
    ]

pub IsTabled-inside : {X : Type 0} (f : ℕ → X) (n : ℕ) (xs : List X) (k : ℕ) → IsTabled f n xs → k < n → k < length xs
IsTabled-inside f n xs k tabled inside = omega (arith, tabled.count, inside)

pub IsTabled-read : {X : Type 0} (f : ℕ → X) (n : ℕ) (xs : List X) (k : ℕ) (x : X) → IsTabled f n xs → k < n → x ≡ get_or xs k x → x ≡ f k
IsTabled-read f n xs k x tabled inside is = is ∙ get_or_from_slice_get xs k (f k) x (tabled.each k inside)

-- ---- counts

pub sum-more : {X : Type 0} (f : X → ℕ) (xs : List X) (i : ℕ) (x : X) → slice_get xs i ≡ Some x →
    sum_by f (take (i + 1) xs) ≡ sum_by f (take i xs) + f x
sum-more f xs i x is =
    sum_by_more f xs i x (slice_get_within xs i x is) ∙ ap (λ y. sum_by f (take i xs) + f y) (get_or_from_slice_get xs i x x is)

pub count-more : {X : Type 0} (p : X → Bool) (xs : List X) (i : ℕ) → i < length xs →
    count_by p (take (i + 1) xs) ≡ count_by p (take i xs) + cond (option_map_or p (slice_get xs i) false) 1 0
count-more p xs i inside =
    elim (slice_get_cases xs i).1
    as (λ _. count_by p (take (i + 1) xs) ≡ count_by p (take i xs) + cond (option_map_or p (slice_get xs i) false) 1 0) [
      | inl found ↦ sum-more (λ x. cond (p x) 1 0) xs i found.0 found.2
          ∙ ap (λ o. count_by p (take i xs) + cond (option_map_or p o false) 1 0) (sym found.2)
      | inr past ↦ absurd (omega (arith, past.0, inside))
    ]

-- one element more that is counted, or isn't
pub counted-yes : {X : Type 0} (p : X → Bool) (xs : List X) (i count new : ℕ) → i < length xs → count ≡ count_by p (take i xs) →
    option_map_or p (slice_get xs i) false ≡ true → new ≡ count + 1 → new ≡ count_by p (take (i + 1) xs)
counted-yes p xs i count new inside is counted next =
    next ∙ ap (λ n. n + 1) is ∙ ap (λ b. count_by p (take i xs) + cond b 1 0) (sym counted) ∙ sym (count-more p xs i inside)

pub counted-no : {X : Type 0} (p : X → Bool) (xs : List X) (i count new : ℕ) → i < length xs → count ≡ count_by p (take i xs) →
    option_map_or p (slice_get xs i) false ≡ false → new ≡ count → new ≡ count_by p (take (i + 1) xs)
counted-no p xs i count new inside is uncounted same =
    let e : count_by p (take i xs) ≡ count_by p (take i xs) + 0 = omega arith in
    same ∙ is ∙ e ∙ ap (λ b. count_by p (take i xs) + cond b 1 0) (sym uncounted) ∙ sym (count-more p xs i inside)

-- ---- children

pub field-sizes : (kind : FieldKind) → cond (counts Children kind) 1 0 ≡ length (field_targets kind)
field-sizes field.Bool = refl
field-sizes (field.Data ty) = refl
field-sizes (field.Pointer ty along) = refl

-- the data fields are as many as their targets
pub children-counted : (fields : List FieldEntry) → length (flat_map (λ f. field_targets f.kind) fields) ≡ count_by (is_counted Children) fields
children-counted [] = refl
children-counted (f ∷ fields) =
    ap (λ targets. length targets) (flat_map-cons (λ f. field_targets f.kind) f fields)
    ∙ length-append (field_targets f.kind) (flat_map (λ f. field_targets f.kind) fields)
    ∙ ap (λ n. length (field_targets f.kind) + n) (children-counted fields)
    ∙ ap (λ n. n + count_by (is_counted Children) fields) (sym (field-sizes f.kind))
    ∙ sym (sum_by-cons (λ x. cond (is_counted Children x) 1 0) f fields)

-- ---- what stands behind a type

-- what stands behind a type with so many variants and these fields
abbrev pub behind_with : List TypeEntry → ℕ → ℕ → List FieldEntry → First
behind_with types ty variants fields = record {
  variants = variants_in (take ty types) + variants;
  bools = bools_in (take ty types) + count_by (is_counted Bools) (take (length fields) fields);
  spaces = spaces_in (take ty types) + row_length (count_by (is_counted Children) (take (length fields) fields));
}

pub first_of : (variants bools spaces more other rest : ℕ) → variants ≡ more → bools ≡ other → spaces ≡ rest →
    let one : First = record { variants = variants; bools = bools; spaces = spaces } in
    let two : First = record { variants = more; bools = other; spaces = rest } in
    one ≡ two
first_of variants bools spaces more other rest e f g = cc

behind_entry : (types : List TypeEntry) (ty : ℕ) (t : TypeEntry) → slice_get types ty ≡ Some t →
    first_at types (ty + 1) ≡ behind_with types ty (count_of_variants t) t.fields
behind_entry types ty t is =
    first_of _ _ _ _ _ _
    (sum-more count_of_variants types ty t is)
    (sum-more (counted_in Bools) types ty t is
    ∙ ap (λ fields. bools_in (take ty types) + count_by (is_counted Bools) fields) (sym (take-length t.fields)))
    (sum-more (λ s. row_length (length (child_types s))) types ty t is
    ∙ ap (λ n. spaces_in (take ty types) + row_length n)
    (children-counted t.fields ∙ ap (λ fields. count_by (is_counted Children) fields) (sym (take-length t.fields))))

abbrev Behind : List TypeEntry → TypeId → Type 0
Behind types ty = first_at types (ty.0 + 1) ≡ behind_with types ty.0 (variant_count types ty) (fields_of types ty)

pub first-behind : (types : List TypeEntry) (ty : TypeId) → KnowsType types ty →
    first_at types (ty.0 + 1) ≡ behind_with types ty.0 (variant_count types ty) (fields_of types ty)
first-behind types ty known = elim (slice_get_cases types ty.0).1 as (λ _. Behind types ty) [
  | inl found ↦ behind_entry types ty.0 found.0 found.2
      ∙ ap (λ o. behind_with types ty.0 (option_map_or count_of_variants o 0) (option_map_or (λ t. t.fields) o [])) (sym found.2)
  | inr past ↦ absurd (omega (arith, past.0, known))
]

-- ---- lists made from a table

take_next : {X : Type 0} (xs : List X) (i : ℕ) (x : X) → slice_get xs i ≡ Some x → take (suc i) xs ≡ take i xs ++ x ∷ []
take_next [] i x is = cc
take_next (y ∷ xs) zero x is = (let same : y ≡ x = cc in ap (λ z. z ∷ []) same)
take_next (y ∷ xs) (suc i) x is = ap (λ zs. y ∷ zs) (take_next xs i x is)

pub take_more : {X : Type 0} (xs : List X) (i : ℕ) (x : X) → slice_get xs i ≡ Some x → take (i + 1) xs ≡ take i xs ++ x ∷ []
take_more xs i x is = ap (λ n. take n xs) (let e : i + 1 ≡ suc i = omega arith in e) ∙ take_next xs i x is

pub flat_map-more : {X Y : Type 0} (f : X → List Y) (xs : List X) (i : ℕ) (x : X) → slice_get xs i ≡ Some x →
    flat_map f (take (i + 1) xs) ≡ flat_map f (take i xs) ++ f x
flat_map-more f xs i x is =
    ap (λ ys. flat_map f ys) (take_more xs i x is) ∙ flat_map-append f (take i xs) (x ∷ [])
    ∙ ap (λ ys. flat_map f (take i xs) ++ ys) (flat_map-cons f x [] ∙ append-nil (f x))

-- a list made from the elements so far, with what the next one gives
pub flat_map-next : {X K Y : Type 0} (kind : X → K) (f : K → List Y) (xs : List X) (i : ℕ) (made new : List Y) (o : Option K) → i < length xs →
    made ≡ flat_map (λ x. f (kind x)) (take i xs) → o ≡ option_map kind (slice_get xs i) → new ≡ made ++ option_map_or f o [] →
    new ≡ flat_map (λ x. f (kind x)) (take (i + 1) xs)
flat_map-next kind f xs i made new o inside is at next =
    elim (slice_get_cases xs i).1 as (λ _. new ≡ flat_map (λ x. f (kind x)) (take (i + 1) xs)) [
      | inl found ↦ next ∙ ap (λ ys. ys ++ option_map_or f o []) is
          ∙ ap (λ p. flat_map (λ x. f (kind x)) (take i xs) ++ option_map_or f p []) (at ∙ ap (λ e. option_map kind e) found.2)
          ∙ sym (flat_map-more (λ x. f (kind x)) xs i found.0 found.2)
      | inr past ↦ absurd (omega (arith, past.0, inside))
    ]

-- ---- numbers of tracks are few

pub counted-inside : {X : Type 0} (p : X → Bool) (xs : List X) (i : ℕ) → option_map_or p (slice_get xs i) false ≡ true → i < length xs
counted-inside p xs i counted = elim (slice_get_cases xs i).1 as (λ _. i < length xs) [
  | inl found ↦ slice_get_within xs i found.0 found.2
  | inr past ↦ absurd (let wrong : false ≡ true = ap (λ o. option_map_or p o false) (sym past.1) ∙ counted in cc)
]

-- the variants before one are fewer than all
pub variants-room : (types : List TypeEntry) (ty : TypeId) (i : ℕ) → i < variant_count types ty → variants_in (take ty.0 types) + i < variants_in types
variants-room types ty i inside = elim (slice_get_cases types ty.0).1 as (λ _. variants_in (take ty.0 types) + i < variants_in types) [
  | inl found ↦ (let more : variants_in (take ty.0 types) + count_of_variants found.0 ≤ variants_in types
      = subst (λ t. variants_in (take ty.0 types) + count_of_variants t ≤ variants_in types) (get_or_from_slice_get types ty.0 found.0 found.0 found.2)
      (sum_by_more_le count_of_variants types ty.0 found.0 found.1) in
      let here : i < count_of_variants found.0 = subst (λ o. i < option_map_or count_of_variants o 0) found.2 inside in
      omega (arith, more, here))
  | inr past ↦ absurd (let none : i < 0 = subst (λ o. i < option_map_or count_of_variants o 0) past.1 inside in omega (arith, none))
]

-- the bool fields before one are no more than all
pub bools-room : (types : List TypeEntry) (ty : TypeId) (i : ℕ) → i < length (fields_of types ty) →
    bools_in (take ty.0 types) + count_by (is_counted Bools) (take i (fields_of types ty)) ≤ bools_in types
bools-room types ty i inside =
    elim (slice_get_cases types ty.0).1 as (λ _. bools_in (take ty.0 types) + count_by (is_counted Bools) (take i (fields_of types ty)) ≤ bools_in types) [
      | inl found ↦ (let more : bools_in (take ty.0 types) + counted_in Bools found.0 ≤ bools_in types
          = subst (λ t. bools_in (take ty.0 types) + counted_in Bools t ≤ bools_in types) (get_or_from_slice_get types ty.0 found.0 found.0 found.2)
          (sum_by_more_le (counted_in Bools) types ty.0 found.0 found.1) in
          let few : count_by (is_counted Bools) (take i found.0.fields) ≤ count_by (is_counted Bools) found.0.fields
          = sum_by-take-le (λ f. cond (is_counted Bools f) 1 0) found.0.fields i in
          subst (λ o. bools_in (take ty.0 types) + count_by (is_counted Bools) (take i (option_map_or (λ t. t.fields) o [])) ≤ bools_in types) (sym found.2)
          (omega (arith, more, few)))
      | inr past ↦ absurd (let none : i < 0 = subst (λ o. i < length (option_map_or (λ t. t.fields) o [])) past.1 inside in omega (arith, none))
    ]
