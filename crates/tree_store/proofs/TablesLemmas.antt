-- The tracks of a layout, and which variant has which field.
use Rattle.std.proofs.Common.{◌≡◌, ℕ, zero, suc, ◌+◌, ◌<◌, true, false, cond, nat_lt, ◌==◌, ◌&&◌, List, [], ◌∷◌, slice_get, length, take, Option, Some, None}
use Rattle.std.proofs.Common.{IsTrue, IfSome, ◌↔◌, refl, sym, ap, ◌∙◌, subst, arith, inl, inr}
use Rattle.std.specs.Option.{option_map_or, option_and_then}
use Rattle.std.specs.List.{AllByRecursion}
use Rattle.std.proofs.lemmas.Bool.{ltb-true, lt-ltb, eqb-true, eq-eqb, and_parts, and_from}
use Rattle.std.proofs.lemmas.Option.{slice_get_within, slice_get_cases}
use Rattle.gta_theory.specs.Assignments.{Position, Assignment}
use Rattle.ws2s_core.specs.declared.track.Track.{Track}
use Rattle.store_core.specs.declared.ids.TypeId.{TypeId}
use Rattle.store_core.specs.declared.ids.VariantId.{VariantId}
use Rattle.store_core.specs.declared.ids.FieldId.{FieldId}
use Rattle.store_core.specs.declared.ids.VarId.{VarId}
use Rattle.store_core.specs.Tables.{TypeEntry, FieldEntry, VarEntry, type_at, fields_of, field_at, var_at, count_of_variants, variant_count, unnamed_of, is_had}
use Rattle.store_core.specs.Tables.{has_field, IsFieldEntry, IsTypeEntry, IsTypeTable}
use Rattle.store_core.proofs.FittingLemmas.{IsSomeAnd-at, IfSome-at, IfSome-from}
use Rattle.tree_encode.specs.Counting.{variants_in, bools_in}
use Rattle.tree_encode.specs.Tracks.{TrackUse, tracks_of, track_count, track_at, variant_track, var_track}
use Rattle.tree_encode.proofs.TracksLemmas.{length-tracks_of, cond-some, and_then-some, fielded}
use Rattle.tree_store.specs.Encoding.{track_of}
use Rattle.tree_store.proofs.EncodingLemmas.{track-place}
use Rattle.tree_formula.specs.WellEncoded.{variant_in, owner, only_variant}
use Rattle.tree_store.specs.Shapes.{IsCellOf, IsCellIn}
use Rattle.tree_store.specs.Premises.{OwnersAreThere}

-- ---- tracks

abbrev pub number_of_variant : List TypeEntry → VariantId → ℕ
number_of_variant types v = variants_in (take v.ty.0 types) + v.index

pub variant-there : (types : List TypeEntry) (v : VariantId) → v.index < variant_count types v.ty →
    variant_track types v ≡ Some (track_at (number_of_variant types v))
variant-there types v inside = ap (λ b. cond b (Some (track_at (number_of_variant types v))) None) (lt-ltb v.index (variant_count types v.ty) inside)

pub variant-known : (types : List TypeEntry) (v : VariantId) (t : Track) → variant_track types v ≡ Some t → v.index < variant_count types v.ty
variant-known types v t is =
    ltb-true v.index (variant_count types v.ty) (cond-some (nat_lt v.index (variant_count types v.ty)) (track_at (number_of_variant types v)) t is).0

pub cell-known : (types : List TypeEntry) (a : Assignment) (v : VariantId) (p : Position) → IsCellOf types a v p → v.index < variant_count types v.ty
cell-known types a v p here =
    let (t, is, on) = IsSomeAnd-at (variant_track types v) (λ t. IsTrue (a t.0 p)) here in variant-known types v t is

pub track-few : (types : List TypeEntry) (vars : List VarEntry) (what : TrackUse) (t : Track) → track_of types vars what ≡ Some t →
    t.0 < track_count types vars
track-few types vars what t is =
    subst (λ n. t.0 < n) (length-tracks_of types vars) (slice_get_within (tracks_of types vars) t.0 what (track-place types vars what t is))

abbrev pub number_of_var : List TypeEntry → VarId → ℕ
number_of_var types v = variants_in types + (bools_in types + v.0)

pub var-there : (types : List TypeEntry) (vars : List VarEntry) (v : VarId) (entry : VarEntry) → var_at vars v ≡ Some entry →
    var_track types vars v ≡ Some (track_at (number_of_var types v))
var-there types vars v entry there =
    ap (λ b. cond b (Some (track_at (number_of_var types v))) None) (lt-ltb v.0 (length vars) (slice_get_within vars v.0 entry there))

-- ---- types and variants that are there

-- a type with a variant is in the table
pub type-known : (types : List TypeEntry) (ty : TypeId) (i : ℕ) → i < variant_count types ty → ty.0 < length types
type-known types ty i inside = elim (slice_get_cases types ty.0).1 as (λ _. ty.0 < length types) [
  | inl found ↦ found.1
  | inr past ↦ absurd (let none : i < 0 = subst (λ o. i < option_map_or count_of_variants o 0) past.1 inside in omega (arith, none))
]

-- so is a type with a field, and the field is among its fields
pub field-known : (types : List TypeEntry) (f : FieldId) (entry : FieldEntry) → field_at types f ≡ Some entry →
    (f.ty.0 < length types) × (f.index < length (fields_of types f.ty))
field-known types f entry there =
    let (t, at, same) = fielded types f entry there in
    (slice_get_within types f.ty.0 t at, slice_get_within (fields_of types f.ty) f.index entry there)

-- the variant without a name is the only one
pub unnamed-is : (types : List TypeEntry) (ty : TypeId) (v : VariantId) → unnamed_of types ty ≡ Some v →
    (variant_in ty 0 ≡ v) × (variant_count types ty ≡ 1)
unnamed-is types ty v is =
    let (t, at, then) = and_then-some (λ t. cond (length t.variants == 0) (Some (variant_in ty 0)) None) (type_at types ty) v is in
    let both = cond-some (length t.variants == 0) (variant_in ty 0) v then in (
      both.1,
      ap (λ o. option_map_or count_of_variants o 0) at ∙ ap (λ b. cond b 1 (length t.variants)) both.0,
    )

pub unnamed-known : (types : List TypeEntry) (ty : TypeId) (v : VariantId) → unnamed_of types ty ≡ Some v → v.index < variant_count types v.ty
unnamed-known types ty v is =
    let (same, one) = unnamed-is types ty v is in
    let inside : 0 < variant_count types ty = omega (arith, one) in
    subst (λ (w : VariantId). w.index < variant_count types w.ty) same inside

-- so the cells of the type are its cells
pub only-cell : (types : List TypeEntry) (a : Assignment) (ty : TypeId) (v : VariantId) (p : Position) → unnamed_of types ty ≡ Some v →
    IsCellOf types a v p ↔ IsCellIn types a ty p
only-cell types a ty v p is =
    let (same, one) = unnamed-is types ty v is in (
      (λ h. record { index = 0; here = subst (λ w. IsCellOf types a w p) (sym same) h }),
      (λ h.
          let first : h.index ≡ 0 = omega (arith, cell-known types a (variant_in ty h.index) p h.here, one) in
          subst (λ w. IsCellOf types a w p) (ap (variant_in ty) first ∙ same) h.here),
    )

-- ---- which variant has a field

pub has_field-from : (types : List TypeEntry) (f : FieldId) (entry : FieldEntry) (index : ℕ) → field_at types f ≡ Some entry →
    index < variant_count types f.ty → is_had index entry ≡ true → IsTrue (has_field types (variant_in f.ty index) f)
has_field-from types f entry index there inside had =
    and_from (f.ty.0 == f.ty.0) (nat_lt index (variant_count types f.ty) && option_map_or (is_had index) (field_at types f) false) (eq-eqb f.ty.0 f.ty.0 refl)
    (and_from (nat_lt index (variant_count types f.ty)) (option_map_or (is_had index) (field_at types f) false) (lt-ltb index (variant_count types f.ty) inside)
    (ap (λ o. option_map_or (is_had index) o false) there ∙ had))

pub has_field-had : (types : List TypeEntry) (f : FieldId) (entry : FieldEntry) (index : ℕ) → field_at types f ≡ Some entry →
    IsTrue (has_field types (variant_in f.ty index) f) → is_had index entry ≡ true
has_field-had types f entry index there has =
    let outer = and_parts (f.ty.0 == f.ty.0) (nat_lt index (variant_count types f.ty) && option_map_or (is_had index) (field_at types f) false) has in
    let inner = and_parts (nat_lt index (variant_count types f.ty)) (option_map_or (is_had index) (field_at types f) false) outer.1 in
    ap (λ o. option_map_or (is_had index) o false) (sym there) ∙ inner.1

pub owner-is : (types : List TypeEntry) (f : FieldId) (entry : FieldEntry) → field_at types f ≡ Some entry →
    owner types f ≡ option_map_or (λ i. Some (variant_in f.ty i)) entry.only None
owner-is types f entry there = ap (λ o. option_and_then (λ (e : FieldEntry). option_map_or (λ i. Some (variant_in f.ty i)) e.only None) o) there

pub owner-inside : (types : List TypeEntry) (f : FieldId) (entry : FieldEntry) (i : ℕ) → OwnersAreThere types → field_at types f ≡ Some entry →
    entry.only ≡ Some i → i < variant_count types f.ty
owner-inside types f entry i owners there own =
    IfSome-at entry.only (λ j. j < variant_count types f.ty) i own
    (IfSome-at (field_at types f) (λ (e : FieldEntry). IfSome e.only (λ j. j < variant_count types f.ty)) entry there (owners f))

-- a common field is had by each variant, another by its own alone
pub common-had : (entry : FieldEntry) (index : ℕ) → entry.only ≡ None → is_had index entry ≡ true
common-had entry index common = ap (λ o. option_map_or (λ i. i == index) o true) common

pub own-had : (entry : FieldEntry) (i : ℕ) → entry.only ≡ Some i → is_had i entry ≡ true
own-had entry i own = ap (λ o. option_map_or (λ j. j == i) o true) own ∙ eq-eqb i i refl

pub had-own : (entry : FieldEntry) (i index : ℕ) → entry.only ≡ Some i → is_had index entry ≡ true → i ≡ index
had-own entry i index own had = eqb-true i index (ap (λ o. option_map_or (λ j. j == index) o true) (sym own) ∙ had)

-- the variant is the only one that has the field
pub record IsOnlyHolder (types : List TypeEntry) (f : FieldId) (entry : FieldEntry) (v : VariantId) : Type 0 where
  pub index : ℕ
  pub inside : index < variant_count types f.ty
  pub is : variant_in f.ty index ≡ v
  pub had : is_had index entry ≡ true
  pub alone : (j : ℕ) → j < variant_count types f.ty → is_had j entry ≡ true → j ≡ index

pub only-holder : (types : List TypeEntry) (f : FieldId) (entry : FieldEntry) (v : VariantId) → OwnersAreThere types → field_at types f ≡ Some entry →
    only_variant types f ≡ Some v → IsOnlyHolder types f entry v
only-holder types f entry v owners there only =
    by entry.only refl
    (ap (λ o. option_map_or (λ w. Some w) o (cond (variant_count types f.ty == 1) (Some (variant_in f.ty 0)) None)) (sym (owner-is types f entry there))
    ∙ only)
  where
    some-one : (x y : VariantId) → Some x ≡ Some y → x ≡ y
    some-one x y e = cc

    by : (o : Option ℕ) → entry.only ≡ o →
        option_map_or (λ w. Some w) (option_map_or (λ i. Some (variant_in f.ty i)) o None)
        (cond (variant_count types f.ty == 1) (Some (variant_in f.ty 0)) None) ≡ Some v → IsOnlyHolder types f entry v
    by None common is =
        let both = cond-some (variant_count types f.ty == 1) (variant_in f.ty 0) v is in
        let one = eqb-true (variant_count types f.ty) 1 both.0 in
        record {
          index = 0;
          inside = omega (arith, one);
          is = both.1;
          had = common-had entry 0 common;
          alone = λ j inside had. omega (arith, one, inside);
        }
    by (Some i) own is = record {
      index = i;
      inside = owner-inside types f entry i owners there own;
      is = some-one (variant_in f.ty i) v is;
      had = own-had entry i own;
      alone = λ j inside had. sym (had-own entry i j own had);
    }

-- ---- type tables

at-place : {X : Type 0} (P : X → Type 0) (xs : List X) (i : ℕ) (x : X) → AllByRecursion P xs → slice_get xs i ≡ Some x → P x
at-place P [] i x all at = cc
at-place P (y ∷ xs) zero x all at = (let same : y ≡ x = cc in subst P same all.0)
at-place P (y ∷ xs) (suc i) x all at = at-place P xs i x all.1 at

pub owners-there : (types : List TypeEntry) → IsTypeTable types → OwnersAreThere types
owners-there types table f =
    IfSome-from (field_at types f) (λ (entry : FieldEntry). IfSome entry.only (λ i. i < variant_count types f.ty)) (λ entry there.
    let (t, at, same) = fielded types f entry there in
    let typed = at-place (IsTypeEntry types) types f.ty.0 t table.each at in
    let fine = at-place (IsFieldEntry types (count_of_variants t)) t.fields f.index entry typed.fields (ap (λ fs. slice_get fs f.index) (sym same) ∙ there) in
    subst (λ n. IfSome entry.only (λ i. i < n)) (ap (λ o. option_map_or count_of_variants o 0) (sym at)) fine.owner)
