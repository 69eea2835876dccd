-- Each track of a layout is that of a variant, a bool field or a variable.
use Rattle.std.proofs.Common.{◌≡◌, ℕ, zero, suc, ◌+◌, ◌<◌, Bool, true, false, cond, nat_lt, IsTrue, ◌↔◌, inl, inr, List, [], ◌∷◌, ◌++◌, length, map, take}
use Rattle.std.proofs.Common.{slice_get, Some, None, refl, sym, ap, ◌∙◌, arith, length-append}
use Rattle.std.specs.Prelude.{count_by}
use Rattle.std.specs.Option.{option_map_or, option_and_then}
use Rattle.std.proofs.lemmas.Bool.Decides.{nat_tests}
use Rattle.std.proofs.lemmas.List.{length-map}
use Rattle.std.proofs.lemmas.List.Sums.{sum_by-cons}
use Rattle.std.proofs.lemmas.Option.{same_Some}
use Rattle.gta_theory.specs.Assignments.{Assignment}
use Rattle.store_core.specs.declared.ids.FieldId.{FieldId}
use Rattle.store_core.specs.declared.ids.VarId.{VarId}
use Rattle.store_core.specs.Tables.{TypeEntry, FieldEntry, VarEntry, fields_of, field_at}
use Rattle.store_core.specs.Stores.{StoreMap}
use Rattle.tree_encode.specs.declared.counting.Counted.TheVariants.{Bools}
use Rattle.tree_encode.specs.Counting.{is_counted, counted_in, rank, variants_in, bools_in}
use Rattle.tree_encode.specs.Tracks.{TrackUse, of_variant, of_bool, of_var, variants_from, bools_at, bools_from, vars_from, tracks_of, track_count, track_at}
use Rattle.tree_encode.specs.Tracks.{bool_track, var_track}
use Rattle.tree_encode.proofs.TracksLemmas.{length-tracks_of}
use Rattle.tree_store.specs.Encoding.{track_of, IsAssignmentOf}
use Rattle.witness_store.specs.Alike.{AreSameBelow}
use Rattle.witness_store.proofs.ListsLemmas.{appended, present, mapped-at}
use Rattle.witness_store.proofs.VariantsLemmas.{listed-track, length-variants_from}

-- ---- bool fields

abbrev field_number : ℕ → ℕ → FieldId
field_number ty i = record { ty = record { 0 = ty }; index = i }

record IsBoolAt (ty i : ℕ) (fields : List FieldEntry) (k : ℕ) (f : FieldId) : Type 0 where
  place : ℕ
  entry : FieldEntry
  there : slice_get fields place ≡ Some entry
  counted : is_counted Bools entry ≡ true
  is : f ≡ field_number ty (i + place)
  number : k ≡ count_by (is_counted Bools) (take place fields)

count-cons : (g : FieldEntry) (fields : List FieldEntry) (b : Bool) → is_counted Bools g ≡ b →
    count_by (is_counted Bools) (g ∷ fields) ≡ cond b 1 0 + count_by (is_counted Bools) fields
count-cons g fields b is =
    sum_by-cons (λ x. cond (is_counted Bools x) 1 0) g fields ∙ ap (λ c. cond c 1 0 + count_by (is_counted Bools) fields) is

bool-at : (ty i : ℕ) (fields : List FieldEntry) (k : ℕ) (f : FieldId) → slice_get (bools_at ty i fields) k ≡ Some f → IsBoolAt ty i fields k f
bool-at ty i [] k f at = absurd (cc)
bool-at ty i (g ∷ fields) k f at = by (λ j e. bool-at ty (suc i) fields j f e) (is_counted Bools g) refl k at
  where
    later : (j m : ℕ) (b : Bool) → is_counted Bools g ≡ b → IsBoolAt ty (suc i) fields j f → m ≡ cond b 1 0 + j → IsBoolAt ty i (g ∷ fields) m f
    later j m b is h e =
        let next : suc i + h.place ≡ i + suc h.place = omega arith in
        record {
          place = suc h.place;
          entry = h.entry;
          there = h.there;
          counted = h.counted;
          is = h.is ∙ ap (field_number ty) next;
          number = e ∙ ap (λ n. cond b 1 0 + n) h.number ∙ sym (count-cons g (take h.place fields) b is);
        }

    by : ((j : ℕ) → slice_get (bools_at ty (suc i) fields) j ≡ Some f → IsBoolAt ty (suc i) fields j f) → (b : Bool) → is_counted Bools g ≡ b → (k : ℕ) →
        slice_get (cond b (field_number ty i ∷ bools_at ty (suc i) fields) (bools_at ty (suc i) fields)) k ≡ Some f → IsBoolAt ty i (g ∷ fields) k f
    by rest true is zero at =
        let here : i ≡ i + 0 = omega arith in
        record { place = 0; entry = g; there = refl; counted = is; is = sym (same_Some (field_number ty i) f at) ∙ ap (field_number ty) here; number = refl }
    by rest true is (suc k) at = later k (suc k) true is (rest k at) (omega arith)
    by rest false is k at = later k k false is (rest k at) (omega arith)

record IsBool (m : ℕ) (types : List TypeEntry) (k : ℕ) (f : FieldId) : Type 0 where
  type : ℕ
  owner : TypeEntry
  there : slice_get types type ≡ Some owner
  entry : FieldEntry
  at : slice_get owner.fields f.index ≡ Some entry
  counted : is_counted Bools entry ≡ true
  number : f.ty.0 ≡ m + type
  place : k ≡ bools_in (take type types) + count_by (is_counted Bools) (take f.index owner.fields)

length-bools_at : (ty i : ℕ) (fields : List FieldEntry) → length (bools_at ty i fields) ≡ count_by (is_counted Bools) fields
length-bools_at ty i [] = refl
length-bools_at ty i (g ∷ fields) = by (length-bools_at ty (suc i) fields) (is_counted Bools g) refl
  where
    by : length (bools_at ty (suc i) fields) ≡ count_by (is_counted Bools) fields → (b : Bool) → is_counted Bools g ≡ b →
        length (cond b (field_number ty i ∷ bools_at ty (suc i) fields) (bools_at ty (suc i) fields)) ≡ count_by (is_counted Bools) (g ∷ fields)
    by rest true is = let e = count-cons g fields true is in omega arith
    by rest false is = let e = count-cons g fields false is in omega arith

length-bools_from : (m : ℕ) (types : List TypeEntry) → length (bools_from m types) ≡ bools_in types
length-bools_from m [] = refl
length-bools_from m (t ∷ types) =
    let both = length-append (bools_at m 0 t.fields) (bools_from (suc m) types) in
    let one = length-bools_at m 0 t.fields in
    let rest = length-bools_from (suc m) types in
    let sum = sum_by-cons (counted_in Bools) t types in omega arith

bool-from : (m : ℕ) (types : List TypeEntry) (k : ℕ) (f : FieldId) → slice_get (bools_from m types) k ≡ Some f → IsBool m types k f
bool-from m [] k f at = absurd (cc)
bool-from m (t ∷ types) k f at = elim (appended (bools_at m 0 t.fields) (bools_from (suc m) types) k f at) [
  | inl front ↦
      let h = bool-at m 0 t.fields k f front in
      let type_is : f.ty.0 ≡ m = ap (λ (g : FieldId). g.ty.0) h.is in
      let index : f.index ≡ h.place = ap (λ (g : FieldId). g.index) h.is ∙ zero_more h.place in
      let none : m ≡ m + 0 = omega arith in
      record {
        type = 0;
        owner = t;
        there = refl;
        entry = h.entry;
        at = ap (slice_get t.fields) index ∙ h.there;
        counted = h.counted;
        number = type_is ∙ none;
        place = h.number ∙ ap (λ i. count_by (is_counted Bools) (take i t.fields)) (sym index) ∙ sym
            (zero_more (count_by (is_counted Bools) (take f.index t.fields)));
      }
  | inr back ↦
      let rest = bool-from (suc m) types back.0 f back.2 in
      let long = length-bools_at m 0 t.fields in
      let is = back.1 in
      let number = rest.number in
      let place = rest.place in
      let more = sum_by-cons (counted_in Bools) t (take rest.type types) in
      record {
        type = suc rest.type;
        owner = rest.owner;
        there = rest.there;
        entry = rest.entry;
        at = rest.at;
        counted = rest.counted;
        number = omega arith;
        place = omega arith;
      }
]
  where
    zero_more : (n : ℕ) → 0 + n ≡ n
    zero_more n = omega arith

bool-listed : (types : List TypeEntry) (k : ℕ) (f : FieldId) → slice_get (bools_from 0 types) k ≡ Some f → bool_track types f ≡ Some
    (track_at (variants_in types + k))
bool-listed types k f at =
    let h = bool-from 0 types k f at in
    let type : f.ty.0 ≡ h.type = (let e = h.number in omega arith) in
    let fields : fields_of types f.ty ≡ h.owner.fields = ap (λ o. option_map_or (λ (t : TypeEntry). t.fields) o []) (ap (slice_get types) type ∙ h.there) in
    let entry : field_at types f ≡ Some h.entry = ap (λ l. slice_get l f.index) fields ∙ h.at in
    let place : bools_in (take f.ty.0 types) + rank Bools types f ≡ k =
    (λ i. bools_in (take (type i) types) + count_by (is_counted Bools) (take f.index (fields i))) ∙ sym h.place in
    ap (option_and_then (λ e. cond (is_counted Bools e) (Some (track_at (variants_in types + (bools_in (take f.ty.0 types) + rank Bools types f)))) None)) entry
    ∙ ap (λ b. cond b (Some (track_at (variants_in types + (bools_in (take f.ty.0 types) + rank Bools types f)))) None) h.counted
    ∙ ap (λ n. Some (track_at (variants_in types + n))) place

-- ---- variables

var-from : (m : ℕ) (vars : List VarEntry) (k : ℕ) (v : VarId) → slice_get (vars_from m vars) k ≡ Some v → (k < length vars) × (v.0 ≡ m + k)
var-from m [] k v at = absurd (cc)
var-from m (x ∷ vars) zero v at =
    let same : m ≡ v.0 = ap (λ (w : VarId). w.0) (same_Some (record { 0 = m }) v at) in (omega arith, omega arith)
var-from m (x ∷ vars) (suc k) v at = let rest = var-from (suc m) vars k v at in let less = rest.0 in let is = rest.1 in (omega arith, omega arith)

true-lt : (i n : ℕ) → i < n → nat_lt i n ≡ true
true-lt i n less = grind (arith, nat_tests)

var-listed : (types : List TypeEntry) (vars : List VarEntry) (k : ℕ) (v : VarId) → slice_get (vars_from 0 vars) k ≡ Some v →
    var_track types vars v ≡ Some (track_at (variants_in types + (bools_in types + k)))
var-listed types vars k v at =
    let h = var-from 0 vars k v at in
    let less = h.0 in
    let is = h.1 in
    let number : v.0 ≡ k = omega arith in
    ap (λ b. cond b (Some (track_at (variants_in types + (bools_in types + v.0)))) None) (true-lt v.0 (length vars) (omega arith))
    ∙ ap (λ n. Some (track_at (variants_in types + (bools_in types + n)))) number

-- ---- all tracks

record IsUsed (types : List TypeEntry) (vars : List VarEntry) (n : ℕ) : Type 0 where
  what : TrackUse
  track : track_of types vars what ≡ Some (track_at n)

used : (types : List TypeEntry) (vars : List VarEntry) (n : ℕ) → n < track_count types vars → IsUsed types vars n
used types vars n less =
    let long = length-tracks_of types vars in
    let (what, at) = present (tracks_of types vars) n (omega arith) in
    elim (appended (map of_variant (variants_from 0 types)) (map of_bool (bools_from 0 types) ++ map of_var (vars_from 0 vars)) n what at) [
      | inl one ↦ let (v, listed, is) = mapped-at of_variant (variants_from 0 types) n what one in record
          { what = of_variant v; track = listed-track types n v listed }
      | inr later ↦
          let count = length-map (variants_from 0 types) of_variant ∙ length-variants_from 0 types in
          let past = later.1 in
          elim (appended (map of_bool (bools_from 0 types)) (map of_var (vars_from 0 vars)) later.0 what later.2) [
            | inl one ↦
                let (f, listed, is) = mapped-at of_bool (bools_from 0 types) later.0 what one in
                let number : variants_in types + later.0 ≡ n = omega arith in
                record { what = of_bool f; track = bool-listed types later.0 f listed ∙ ap (λ m. Some (track_at m)) number }
            | inr last ↦
                let (v, listed, is) = mapped-at of_var (vars_from 0 vars) last.0 what last.2 in
                let bools = length-map (bools_from 0 types) of_bool ∙ length-bools_from 0 types in
                let behind = last.1 in
                let number : variants_in types + (bools_in types + last.0) ≡ n = omega arith in
                record { what = of_var v; track = var-listed types vars last.0 v listed ∙ ap (λ m. Some (track_at m)) number }
          ]
    ]

same-truth : (b c : Bool) → IsTrue b ↔ IsTrue c → b ≡ c
same-truth true true h = refl
same-truth true false h = sym (h.0 refl)
same-truth false true h = h.1 refl
same-truth false false h = refl

-- two assignments of one store are the same on the layout's tracks
pub AreSameBelow-assignments : (types : List TypeEntry) (vars : List VarEntry) (s : StoreMap) (a b : Assignment) → IsAssignmentOf types vars s a →
    IsAssignmentOf types vars s b → AreSameBelow (track_count types vars) a b
AreSameBelow-assignments types vars s a b of_a of_b n p less =
    let h = used types vars n less in
    let one = of_a.tracks h.what (track_at n) p h.track in
    let other = of_b.tracks h.what (track_at n) p h.track in
    same-truth (a n p) (b n p) ((λ on. other.1 (one.0 on)), (λ on. one.1 (other.0 on)))
