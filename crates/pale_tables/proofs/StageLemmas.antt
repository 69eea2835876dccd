-- A type table in the stages of its making.
use Rattle.std.proofs.Common.{◌≡◌, ℕ, zero, suc, ◌+◌, ◌<◌, ◌≤◌, List, [], ◌∷◌, ◌++◌, length, map, set, Option, Some, None, refl, sym, ap, ◌∙◌, subst}
use Rattle.std.proofs.Common.{Bool, true, false, arith, slice_get, append_assoc, append-nil, position, length-append, IfSome, get_or, drop}
use Rattle.std.proofs.lemmas.List.{length-map, length-set, set-set, map-append, at_drop_more}
use Rattle.std.proofs.lemmas.Cmp.{nat_list_eq_equiv}
use Rattle.std.specs.Option.{option_map_or, option_map}
use Rattle.std.specs.List.{AllByRecursion}
use Rattle.std.specs.Str.{bytes_eq}
use Rattle.store_core.specs.declared.ids.TypeId.{TypeId}
use Rattle.store_core.specs.Tables.{TypeEntry, FieldEntry, KnowsType, KnowsKind, KnowsOwner, type_at, type_named, type_names, place_of, variants_of, fields_of}
use Rattle.store_core.specs.Tables.{variant_count, count_of_variants, field_names, with_type, add_variant, add_field, owner_type, AreDistinct, IsFieldEntry}
use Rattle.store_core.proofs.Names.{position_none-at, position_none-from, position_none-cons}
use Rattle.store_core.proofs.Adding.{at_known}
use Rattle.store_core.proofs.Growing.{Grows, Grows-set, KnowsKind-grows, IsFieldEntry-grows, AllByRecursion-weaker}
use Rattle.pale_tables.specs.Stages.{named, bare, owner_in}

-- ---- names that stand once

between : {X : Type 0} (xs ys : List X) (y : X) → slice_get (xs ++ y ∷ ys) (length xs) ≡ Some y
between [] ys y = refl
between (z ∷ xs) ys y = between xs ys y

-- a name that comes later isn't among those before it
pub distinct-before : (xs ys : List (List ℕ)) (y : List ℕ) → AreDistinct (xs ++ y ∷ ys) → place_of y xs ≡ None
distinct-before [] ys y distinct = refl
distinct-before (x ∷ xs) ys y distinct =
    position_none-from (bytes_eq y) x xs
    (nat_list_eq_equiv.symm y x ∙ position_none-at (bytes_eq x) (xs ++ y ∷ ys) (length xs) y distinct.0 (between xs ys y))
    (distinct-before xs ys y distinct.1)

none-first : {X : Type 0} (p : X → Bool) (xs ys : List X) → position p (xs ++ ys) ≡ None → position p xs ≡ None
none-first p [] ys none = refl
none-first p (z ∷ xs) ys none =
    let parts = position_none-cons p z (xs ++ ys) none in position_none-from p z xs parts.0 (none-first p xs ys parts.1)

-- the names of a first part stand once
pub distinct-first : (xs ys : List (List ℕ)) → AreDistinct (xs ++ ys) → AreDistinct xs
distinct-first [] ys distinct = tt
distinct-first (x ∷ xs) ys distinct = (none-first (bytes_eq x) xs ys distinct.0, distinct-first xs ys distinct.1)

-- ---- one type after the other

with_type-at : (types : List TypeEntry) (ty : TypeId) (t : TypeEntry) (change : TypeEntry → TypeEntry) → type_at types ty ≡ Some t →
    with_type types ty change ≡ set types ty.0 (change t)
with_type-at types ty t change at = ap (λ o. option_map_or (λ u. set types ty.0 (change u)) o types) at

-- the types before this place are as f makes them, the others as g does
abbrev pub stage : (TypeEntry → TypeEntry) → (TypeEntry → TypeEntry) → List TypeEntry → ℕ → List TypeEntry
stage f g [] i = []
stage f g (t ∷ types) zero = g t ∷ map g types
stage f g (t ∷ types) (suc i) = f t ∷ stage f g types i

pub stage-zero : (f g : TypeEntry → TypeEntry) (types : List TypeEntry) → stage f g types 0 ≡ map g types
stage-zero f g [] = refl
stage-zero f g (t ∷ types) = refl

pub stage-all : (f g : TypeEntry → TypeEntry) (types : List TypeEntry) → stage f g types (length types) ≡ map f types
stage-all f g [] = refl
stage-all f g (t ∷ types) = ap (λ more. f t ∷ more) (stage-all f g types)

-- the type at the place is still as g makes it
pub stage-at : (f g : TypeEntry → TypeEntry) (types : List TypeEntry) (i : ℕ) (t : TypeEntry) → slice_get types i ≡ Some t →
    slice_get (stage f g types i) i ≡ Some (g t)
stage-at f g [] i t at = absurd (cc)
stage-at f g (u ∷ types) zero t at = ap (option_map g) at
stage-at f g (u ∷ types) (suc i) t at = stage-at f g types i t at

-- and then it is as f makes it
pub stage-set : (f g : TypeEntry → TypeEntry) (types : List TypeEntry) (i : ℕ) (t : TypeEntry) → slice_get types i ≡ Some t →
    set (stage f g types i) i (f t) ≡ stage f g types (suc i)
stage-set f g [] i t at = refl
stage-set f g (u ∷ types) zero t at =
    let same : t ≡ u = cc in ap (λ first. f first ∷ map g types) same ∙ ap (λ more. f u ∷ more) (sym (stage-zero f g types))
stage-set f g (u ∷ types) (suc i) t at = ap (λ more. f u ∷ more) (stage-set f g types i t at)

pub stage-length : (f g : TypeEntry → TypeEntry) (types : List TypeEntry) (i : ℕ) → length (stage f g types i) ≡ length types
stage-length f g [] i = refl
stage-length f g (t ∷ types) zero = ap suc (length-map types g)
stage-length f g (t ∷ types) (suc i) = ap suc (stage-length f g types i)

-- a change that makes the type at the place as f does leads to the next stage
pub stage-next : (f g change : TypeEntry → TypeEntry) (types : List TypeEntry) (i : ℕ) (t : TypeEntry) → slice_get types i ≡ Some t →
    change (g t) ≡ f t → with_type (stage f g types i) (record { 0 = i }) change ≡ stage f g types (suc i)
stage-next f g change types i t at makes =
    with_type-at (stage f g types i) (record { 0 = i }) (g t) change (stage-at f g types i t at)
    ∙ ap (set (stage f g types i) i) makes
    ∙ stage-set f g types i t at

-- ---- a type changed

set-same : {X : Type 0} (xs : List X) (i : ℕ) (x : X) → slice_get xs i ≡ Some x → set xs i x ≡ xs
set-same [] i x at = refl
set-same (z ∷ xs) zero x at = let same : x ≡ z = cc in ap (λ first. first ∷ xs) same
set-same (z ∷ xs) (suc i) x at = ap (λ more. z ∷ more) (set-same xs i x at)

set-at : {X : Type 0} (xs : List X) (i : ℕ) (x y : X) → slice_get xs i ≡ Some x → slice_get (set xs i y) i ≡ Some y
set-at [] i x y at = absurd (cc)
set-at (z ∷ xs) zero x y at = refl
set-at (z ∷ xs) (suc i) x y at = set-at xs i x y at

with_type-none : (types : List TypeEntry) (ty : TypeId) (change : TypeEntry → TypeEntry) → type_at types ty ≡ None → with_type types ty change ≡ types
with_type-none types ty change none = ap (λ o. option_map_or (λ u. set types ty.0 (change u)) o types) none

-- a second change comes behind the first
pub with_type-twice : (types : List TypeEntry) (ty : TypeId) (f g : TypeEntry → TypeEntry) →
    with_type (with_type types ty f) ty g ≡ with_type types ty (λ t. g (f t))
with_type-twice types ty f g = by (type_at types ty) refl
  where
    by : (o : Option TypeEntry) → type_at types ty ≡ o → with_type (with_type types ty f) ty g ≡ with_type types ty (λ t. g (f t))
    by None none =
        ap (λ before. with_type before ty g) (with_type-none types ty f none)
        ∙ with_type-none types ty g none ∙ sym (with_type-none types ty (λ t. g (f t)) none)
    by (Some t) at =
        ap (λ before. with_type before ty g) (with_type-at types ty t f at)
        ∙ with_type-at (set types ty.0 (f t)) ty (f t) g (set-at types ty.0 t (f t) at)
        ∙ set-set types ty.0 (f t) (g (f t))
        ∙ sym (with_type-at types ty t (λ u. g (f u)) at)

-- ---- the variants or fields of one type, one after the other

module _ {X : Type 0} (list : TypeEntry → List X) (more : List X → TypeEntry → TypeEntry)
    (longer : (xs : List X) (t : TypeEntry) → list (more xs t) ≡ list t ++ xs)
    (twice : (xs ys : List X) (t : TypeEntry) → more ys (more xs t) ≡ more (xs ++ ys) t)
    (none : (t : TypeEntry) → more [] t ≡ t) where
  -- what a type has; none where it isn't there
  abbrev what : List TypeEntry → TypeId → List X
  what types ty = option_map_or list (type_at types ty) []

  -- some of them have been added, and these are left
  record IsLeft (start table : List TypeEntry) (ty : TypeId) (all left : List X) : Type 0 where
    known : KnowsType table ty
    parts : what table ty ++ left ≡ what start ty ++ all
    whole : with_type table ty (more left) ≡ with_type start ty (more all)

  what-more : (types : List TypeEntry) (ty : TypeId) (xs : List X) → KnowsType types ty → what (with_type types ty (more xs)) ty ≡ what types ty ++ xs
  what-more types ty xs known =
      let found = at_known types ty.0 known in
      let t = found.0 in
      ap (λ after. what after ty) (with_type-at types ty t (more xs) found.1)
      ∙ ap (λ o. option_map_or list o []) (set-at types ty.0 t (more xs t) found.1)
      ∙ longer xs t
      ∙ sym (ap (λ o. option_map_or list o [] ++ xs) found.1)

  still-known : (types : List TypeEntry) (ty : TypeId) (change : TypeEntry → TypeEntry) → KnowsType types ty → KnowsType (with_type types ty change) ty
  still-known types ty change known =
      let found = at_known types ty.0 known in
      subst (λ after. ty.0 < length after) (sym (with_type-at types ty found.0 change found.1))
      (omega (arith, known, length-set types ty.0 (change found.0)))

  unchanged : (types : List TypeEntry) (ty : TypeId) → KnowsType types ty → with_type types ty (more []) ≡ types
  unchanged types ty known =
      let found = at_known types ty.0 known in
      with_type-at types ty found.0 (more []) found.1 ∙ ap (set types ty.0) (none found.0) ∙ set-same types ty.0 found.0 found.1

  left-start : (start : List TypeEntry) (ty : TypeId) (all : List X) → KnowsType start ty → IsLeft start start ty all all
  left-start start ty all known = record { known = known; parts = refl; whole = refl }

  left-next : (start table : List TypeEntry) (ty : TypeId) (all left : List X) (x : X) → IsLeft start table ty all (x ∷ left) →
      IsLeft start (with_type table ty (more (x ∷ []))) ty all left
  left-next start table ty all left x is = record {
    known = still-known table ty (more (x ∷ [])) is.known;
    parts = ap (λ xs. xs ++ left) (what-more table ty (x ∷ []) is.known) ∙ append_assoc (what table ty) (x ∷ []) left ∙ is.parts;
    whole =
        with_type-twice table ty (more (x ∷ [])) (more left)
        ∙ ap (with_type table ty) (λ i t. twice (x ∷ []) left t i)
        ∙ is.whole;
  }

  left-end : (start table : List TypeEntry) (ty : TypeId) (all : List X) → IsLeft start table ty all [] → table ≡ with_type start ty (more all)
  left-end start table ty all is = sym (unchanged table ty is.known) ∙ is.whole

-- ---- variants

abbrev more_variants : List (List ℕ) → TypeEntry → TypeEntry
more_variants names t = record t { variants = t.variants ++ names }

variants-twice : (xs ys : List (List ℕ)) (t : TypeEntry) → more_variants ys (more_variants xs t) ≡ more_variants (xs ++ ys) t
variants-twice xs ys t = ap (λ vs. record t { variants = vs }) (append_assoc t.variants xs ys)

variants-none : (t : TypeEntry) → more_variants [] t ≡ t
variants-none t = ap (λ vs. record t { variants = vs }) (append-nil t.variants)

-- the variants that are left of those that the type gets
pub record VariantsLeft (start table : List TypeEntry) (ty : TypeId) (all left : List (List ℕ)) : Type 0 where
  pub known : KnowsType table ty
  is : IsLeft (λ t. t.variants) more_variants (λ xs t. refl) variants-twice variants-none start table ty all left

pub variants-start : (start : List TypeEntry) (ty : TypeId) (all : List (List ℕ)) → KnowsType start ty → VariantsLeft start start ty all all
variants-start start ty all known = record {
  known = known;
  is = left-start (λ t. t.variants) more_variants (λ xs t. refl) variants-twice variants-none start ty all known;
}

pub variants-next : (start table : List TypeEntry) (ty : TypeId) (all left : List (List ℕ)) (name : List ℕ) → VariantsLeft start table ty all (name ∷ left) →
    VariantsLeft start (add_variant table ty name) ty all left
variants-next start table ty all left name rest =
    let next = left-next (λ t. t.variants) more_variants (λ xs t. refl) variants-twice variants-none start table ty all left name rest.is in
    record { known = next.known; is = next }

pub variants-end : (start table : List TypeEntry) (ty : TypeId) (all : List (List ℕ)) → VariantsLeft start table ty all [] →
    table ≡ with_type start ty (λ t. record t { variants = t.variants ++ all })
variants-end start table ty all rest = left-end (λ t. t.variants) more_variants (λ xs t. refl) variants-twice variants-none start table ty all rest.is

pub variant-new : (start table : List TypeEntry) (ty : TypeId) (all left : List (List ℕ)) (name : List ℕ) → VariantsLeft start table ty all (name ∷ left) →
    AreDistinct (variants_of start ty ++ all) → place_of name (variants_of table ty) ≡ None
variant-new start table ty all left name rest distinct =
    distinct-before (variants_of table ty) left name (subst AreDistinct (sym rest.is.parts) distinct)

pub variant-room : (start table : List TypeEntry) (ty : TypeId) (all left : List (List ℕ)) (name : List ℕ) → VariantsLeft start table ty all (name ∷ left) →
    length (variants_of start ty ++ all) ≤ 16 → length (variants_of table ty) < 16
variant-room start table ty all left name rest few =
    omega (arith, few, ap length rest.is.parts, length-append (variants_of table ty) (name ∷ left))

-- ---- fields

abbrev more_fields : List FieldEntry → TypeEntry → TypeEntry
more_fields fs t = record t { fields = t.fields ++ fs }

fields-twice : (xs ys : List FieldEntry) (t : TypeEntry) → more_fields ys (more_fields xs t) ≡ more_fields (xs ++ ys) t
fields-twice xs ys t = ap (λ fs. record t { fields = fs }) (append_assoc t.fields xs ys)

fields-none : (t : TypeEntry) → more_fields [] t ≡ t
fields-none t = ap (λ fs. record t { fields = fs }) (append-nil t.fields)

-- the fields that are left of those that the type gets
pub record FieldsLeft (start table : List TypeEntry) (ty : TypeId) (all left : List FieldEntry) : Type 0 where
  pub known : KnowsType table ty
  is : IsLeft (λ t. t.fields) more_fields (λ xs t. refl) fields-twice fields-none start table ty all left
  grows : Grows start table
  each : AllByRecursion (IsFieldEntry start (variant_count start ty)) left

pub fields-start : (start : List TypeEntry) (ty : TypeId) (all : List FieldEntry) → KnowsType start ty →
    AllByRecursion (IsFieldEntry start (variant_count start ty)) all → FieldsLeft start start ty all all
fields-start start ty all known each = record {
  known = known;
  is = left-start (λ t. t.fields) more_fields (λ xs t. refl) fields-twice fields-none start ty all known;
  grows = record { types = omega arith; variants = λ v h. h };
  each = each;
}

grows-more : (start table : List TypeEntry) (ty : TypeId) (fs : List FieldEntry) → KnowsType table ty → Grows start table →
    Grows start (with_type table ty (more_fields fs))
grows-more start table ty fs known grows =
    let found = at_known table ty.0 known in
    let t = found.0 in
    let more : Grows table (set table ty.0 (more_fields fs t)) = Grows-set table ty.0 t (more_fields fs t) found.1 (omega arith) in
    let types = grows.types in
    let longer = more.types in
    subst (Grows start) (sym (with_type-at table ty t (more_fields fs) found.1))
    (record { types = omega (arith, types, longer); variants = λ v h. more.variants v (grows.variants v h) })

pub fields-next : (start table : List TypeEntry) (ty : TypeId) (all left : List FieldEntry) (f : FieldEntry) → FieldsLeft start table ty all (f ∷ left) →
    FieldsLeft start (add_field table (owner_in ty f.only) f.name f.kind) ty all left
fields-next start table ty all left f rest =
    let next = left-next (λ t. t.fields) more_fields (λ xs t. refl) fields-twice fields-none start table ty all left f rest.is in
    subst (λ after. FieldsLeft start after ty all left) (added f.only)
    (record { known = next.known; is = next; grows = grows-more start table ty (f ∷ []) rest.known rest.grows; each = rest.each.1 })
  where
    added : (only : Option ℕ) → with_type table ty (more_fields (record { name = f.name; only = only; kind = f.kind } ∷ []))
        ≡ add_field table (owner_in ty only) f.name f.kind
    added None = refl
    added (Some i) = refl

pub fields-end : (start table : List TypeEntry) (ty : TypeId) (all : List FieldEntry) → FieldsLeft start table ty all [] →
    table ≡ with_type start ty (λ t. record t { fields = t.fields ++ all })
fields-end start table ty all rest = left-end (λ t. t.fields) more_fields (λ xs t. refl) fields-twice fields-none start table ty all rest.is

-- what `add_field` asks for
pub record IsAddable (table : List TypeEntry) (ty : TypeId) (f : FieldEntry) : Type 0 where
  pub owner : KnowsOwner table (owner_in ty f.only)
  pub kind : KnowsKind table f.kind
  pub new : place_of f.name (field_names (fields_of table (owner_type (owner_in ty f.only)))) ≡ None
  pub room : length (fields_of table (owner_type (owner_in ty f.only))) < 32

pub field-addable : (start table : List TypeEntry) (ty : TypeId) (all left : List FieldEntry) (f : FieldEntry) → FieldsLeft start table ty all (f ∷ left) →
    AreDistinct (field_names (fields_of start ty ++ all)) → length (fields_of start ty ++ all) ≤ 32 → IsAddable table ty f
field-addable start table ty all left f rest distinct few =
    let new : place_of f.name (field_names (fields_of table ty)) ≡ None =
    distinct-before (field_names (fields_of table ty)) (field_names left) f.name
    (subst AreDistinct (sym (ap field_names rest.is.parts) ∙ map-append (λ g. g.name) (fields_of table ty) (f ∷ left)) distinct) in
    let room : length (fields_of table ty) < 32 = omega (arith, few, ap length rest.is.parts, length-append (fields_of table ty) (f ∷ left)) in
    record {
      owner = owned f.only rest.each.0.owner;
      kind = KnowsKind-grows start table rest.grows f.kind rest.each.0.kind;
      new = subst (λ o. place_of f.name (field_names (fields_of table o)) ≡ None) (sym (its-type f.only)) new;
      room = subst (λ o. length (fields_of table o) < 32) (sym (its-type f.only)) room;
    }
  where
    its-type : (only : Option ℕ) → owner_type (owner_in ty only) ≡ ty
    its-type None = refl
    its-type (Some i) = refl

    owned : (only : Option ℕ) → IfSome only (λ i. i < variant_count start ty) → KnowsOwner table (owner_in ty only)
    owned None h = rest.known
    owned (Some i) h = rest.grows.variants (record { ty = ty; index = i }) h

-- ---- what a stage has for the type at its place

pub type-left : (f g : TypeEntry → TypeEntry) (types : List TypeEntry) (i : ℕ) → i < length types → KnowsType (stage f g types i) (record { 0 = i })
type-left f g types i low = omega (arith, low, stage-length f g types i)

pub stage-of : {X : Type 0} (list : TypeEntry → List X) (f g : TypeEntry → TypeEntry) (types : List TypeEntry) (i : ℕ) (t : TypeEntry) →
    slice_get types i ≡ Some t → option_map_or list (slice_get (stage f g types i) i) [] ≡ list (g t)
stage-of list f g types i t at = ap (λ o. option_map_or list o []) (stage-at f g types i t at)

-- without their fields the types have the same variants
bare-count : (types : List TypeEntry) (j : ℕ) → option_map_or count_of_variants (slice_get (map bare types) j) 0
    ≡ option_map_or count_of_variants (slice_get types j) 0
bare-count [] j = refl
bare-count (t ∷ types) zero = refl
bare-count (t ∷ types) (suc j) = bare-count types j

stage-count : (types : List TypeEntry) (i j : ℕ) → option_map_or count_of_variants (slice_get (stage (λ t. t) bare types i) j) 0
    ≡ option_map_or count_of_variants (slice_get types j) 0
stage-count [] i j = refl
stage-count (t ∷ types) zero zero = refl
stage-count (t ∷ types) zero (suc j) = bare-count types j
stage-count (t ∷ types) (suc i) zero = refl
stage-count (t ∷ types) (suc i) (suc j) = stage-count types i j

-- fields that fit the whole table fit it in each stage
pub fields-there : (types : List TypeEntry) (i : ℕ) (t : TypeEntry) (fs : List FieldEntry) → slice_get types i ≡ Some t →
    AllByRecursion (IsFieldEntry types (count_of_variants t)) fs →
    AllByRecursion (IsFieldEntry (stage (λ t. t) bare types i) (variant_count (stage (λ t. t) bare types i) (record { 0 = i }))) fs
fields-there types i t fs at each =
    let grows : Grows types (stage (λ t. t) bare types i) = record {
      types = omega (arith, stage-length (λ t. t) bare types i);
      variants = λ v h. subst (λ n. v.index < n) (sym (stage-count types i v.ty.0)) h;
    } in
    let same : variant_count (stage (λ t. t) bare types i) (record { 0 = i }) ≡ count_of_variants t =
    stage-count types i i ∙ ap (λ o. option_map_or count_of_variants o 0) at in
    AllByRecursion-weaker _ _ (IsFieldEntry-grows types (stage (λ t. t) bare types i) grows (count_of_variants t)
    (variant_count (stage (λ t. t) bare types i) (record { 0 = i })) (omega (arith, same))) fs each

-- the item at its place, and those behind it
pub item-next : {X : Type 0} (xs : List X) (i : ℕ) (x : X) → i < length xs → x ≡ get_or xs i x → drop i xs ≡ x ∷ drop (i + 1) xs
item-next xs i x low is = at_drop_more (λ l. l) xs i x low ∙ ap (λ y. y ∷ drop (i + 1) xs) (sym is)

-- a row at its place
pub row-at : {X Y : Type 0} (row : X → Y) (xs : List X) (i : ℕ) (x : X) → i < length xs → x ≡ get_or xs i x → slice_get (map row xs) i ≡ Some (row x)
row-at row [] i x low is = absurd (omega arith)
row-at row (y ∷ xs) zero x low is = ap (λ z. Some (row z)) (sym is)
row-at row (y ∷ xs) (suc i) x low is = row-at row xs i x (omega arith) is

-- ---- the names of the types

named-names : (types : List TypeEntry) → type_names (map named types) ≡ type_names types
named-names [] = refl
named-names (t ∷ types) = ap (λ more. t.name ∷ more) (named-names types)

pub type-new : (table types : List TypeEntry) (t : TypeEntry) (rest : List TypeEntry) → table ++ map named (t ∷ rest) ≡ map named types →
    AreDistinct (type_names types) → type_named table t.name ≡ None
type-new table types t rest whole distinct =
    ap (option_map (λ i. record { 0 = i }))
    (distinct-before (type_names table) (type_names rest) t.name (subst AreDistinct same distinct))
  where
    same : type_names types ≡ type_names table ++ t.name ∷ type_names rest
    same =
        sym (named-names types) ∙ ap type_names (sym whole) ∙ map-append (λ u. u.name) table (map named (t ∷ rest))
        ∙ ap (λ names. type_names table ++ t.name ∷ names) (named-names rest)

pub type-room : (table types : List TypeEntry) (t : TypeEntry) (rest : List TypeEntry) → table ++ map named (t ∷ rest) ≡ map named types →
    length types ≤ 4294967295 → length table < 4294967295
type-room table types t rest whole few =
    omega (arith, few, ap length whole, length-append table (map named (t ∷ rest)), length-map types named)
