-- Each number of a track is its place in the list of the tracks.
use Rattle.std.proofs.Common.{◌≡◌, ℕ, zero, suc, ◌+◌, ◌<◌, Bool, true, false, cond, nat_lt, inl, inr, List, [], ◌∷◌, ◌++◌, length, map, take, slice_get, Option}
use Rattle.std.proofs.Common.{Some, None, refl, sym, ap, ◌∙◌, subst, length-append, zero-add, arith}
use Rattle.std.specs.Prelude.{count_by}
use Rattle.std.specs.Option.{option_map_or, option_and_then}
use Rattle.std.proofs.lemmas.Bool.{ltb-true}
use Rattle.std.proofs.lemmas.List.{length-map}
use Rattle.std.proofs.lemmas.Option.{slice_get_cases}
use Rattle.std.proofs.lemmas.List.Sums.{sum_by-cons}
use Rattle.ws2s_core.specs.declared.track.Track.{Track}
use Rattle.store_core.specs.declared.ids.VariantId.{VariantId}
use Rattle.store_core.specs.declared.ids.FieldId.{FieldId}
use Rattle.store_core.specs.declared.ids.VarId.{VarId}
use Rattle.store_core.specs.Tables.{TypeEntry, FieldEntry, VarEntry, count_of_variants, variant_count, fields_of}
use Rattle.tree_encode.specs.declared.counting.Counted.TheVariants.{Bools}
use Rattle.tree_encode.specs.Counting.{is_counted, counted_in, rank, variants_in, bools_in}
use Rattle.tree_encode.specs.Tracks.{TrackUse, of_variant, of_bool, of_var, variants_at, variants_from, bools_at, bools_from, vars_from, tracks_of, track_count}
use Rattle.tree_encode.specs.Tracks.{track_at, variant_track, bool_track, var_track}

-- ---- two lists, one after the other

pub in_first : {X : Type 0} (xs ys : List X) (k : ℕ) (x : X) → slice_get xs k ≡ Some x → slice_get (xs ++ ys) k ≡ Some x
in_first [] ys k x is = cc
in_first (y ∷ xs) ys zero x is = is
in_first (y ∷ xs) ys (suc k) x is = in_first xs ys k x is

pub in_second : {X : Type 0} (xs ys : List X) (n k : ℕ) (x : X) → n ≡ length xs → slice_get ys k ≡ Some x → slice_get (xs ++ ys) (n + k) ≡ Some x
in_second [] ys n k x e is =
    let at : n + k ≡ k = omega (arith, e) in
    ap (λ j. slice_get ys j) at ∙ is
in_second (y ∷ xs) ys zero k x e is = absurd (omega (arith, e))
in_second (y ∷ xs) ys (suc n) k x e is =
    let at : suc n + k ≡ suc (n + k) = omega arith in
    ap (λ j. slice_get (y ∷ (xs ++ ys)) j) at ∙ in_second xs ys n k x (omega (arith, e)) is

-- ---- variants

length-variants_at : (ty i n : ℕ) → length (variants_at ty i n) ≡ n
length-variants_at ty i zero = refl
length-variants_at ty i (suc n) = ap (λ m. suc m) (length-variants_at ty (suc i) n)

abbrev variant_at : ℕ → ℕ → VariantId
variant_at ty index = record { ty = record { 0 = ty }; index = index }

get-variants_at : (ty i n k : ℕ) → k < n → slice_get (variants_at ty i n) k ≡ Some (variant_at ty (i + k))
get-variants_at ty i zero k inside = absurd (omega arith)
get-variants_at ty i (suc n) zero inside = (let e : i ≡ i + 0 = omega arith in ap (λ j. Some (variant_at ty j)) e)
get-variants_at ty i (suc n) (suc k) inside =
    let e : suc i + k ≡ i + suc k = omega arith in
    get-variants_at ty (suc i) n k (omega arith) ∙ ap (λ j. Some (variant_at ty j)) e

length-variants_from : (n : ℕ) (ts : List TypeEntry) → length (variants_from n ts) ≡ variants_in ts
length-variants_from n [] = refl
length-variants_from n (t ∷ ts) =
    length-append (variants_at n 0 (count_of_variants t)) (variants_from (suc n) ts)
    ∙ ap (λ m. m + length (variants_from (suc n) ts)) (length-variants_at n 0 (count_of_variants t))
    ∙ ap (λ m. count_of_variants t + m) (length-variants_from (suc n) ts)
    ∙ sym (sum_by-cons count_of_variants t ts)

get-variants_from : (n : ℕ) (ts : List TypeEntry) (k j : ℕ) (t : TypeEntry) → slice_get ts k ≡ Some t → j < count_of_variants t →
    slice_get (variants_from n ts) (variants_in (take k ts) + j) ≡ Some (variant_at (n + k) j)
get-variants_from n [] k j t is inside = cc
get-variants_from n (s ∷ ts) zero j t is inside =
    let e : n ≡ n + 0 = omega arith in
    let same : s ≡ t = cc in
    ap (λ i. slice_get (variants_from n (s ∷ ts)) i) (zero-add j)
    ∙ in_first (variants_at n 0 (count_of_variants s)) (variants_from (suc n) ts) j (variant_at n j)
    (get-variants_at n 0 (count_of_variants s) j (subst (λ u. j < count_of_variants u) (sym same) inside) ∙ ap (λ i. Some (variant_at n i)) (zero-add j))
    ∙ ap (λ i. Some (variant_at i j)) e
get-variants_from n (s ∷ ts) (suc k) j t is inside =
    let e : suc n + k ≡ n + suc k = omega arith in
    let sum : variants_in (s ∷ take k ts) ≡ count_of_variants s + variants_in (take k ts) = sum_by-cons count_of_variants s (take k ts) in
    let at : variants_in (s ∷ take k ts) + j ≡ count_of_variants s + (variants_in (take k ts) + j) = omega (arith, sum) in
    ap (λ i. slice_get (variants_from n (s ∷ ts)) i) at
    ∙ in_second (variants_at n 0 (count_of_variants s)) (variants_from (suc n) ts) (count_of_variants s) (variants_in (take k ts) + j)
    (variant_at (suc n + k) j)
    (sym (length-variants_at n 0 (count_of_variants s))) (get-variants_from (suc n) ts k j t is inside)
    ∙ ap (λ i. Some (variant_at i j)) e

-- ---- bool fields

abbrev field_at_index : ℕ → ℕ → FieldId
field_at_index ty index = record { ty = record { 0 = ty }; index = index }

abbrev first_bools : ℕ → ℕ → FieldEntry → List FieldEntry → Bool → List FieldId
first_bools ty i f fs b = cond b (field_at_index ty i ∷ bools_at ty (suc i) fs) (bools_at ty (suc i) fs)

length-first_bools : (ty i : ℕ) (f : FieldEntry) (fs : List FieldEntry) (b : Bool) →
    length (first_bools ty i f fs b) ≡ cond b 1 0 + length (bools_at ty (suc i) fs)
length-first_bools ty i f fs true = (let e : suc (length (bools_at ty (suc i) fs)) ≡ 1 + length (bools_at ty (suc i) fs) = omega arith in e)
length-first_bools ty i f fs false = sym (zero-add (length (bools_at ty (suc i) fs)))

length-bools_at : (ty i : ℕ) (fs : List FieldEntry) → length (bools_at ty i fs) ≡ count_by (is_counted Bools) fs
length-bools_at ty i [] = refl
length-bools_at ty i (f ∷ fs) =
    length-first_bools ty i f fs (is_counted Bools f)
    ∙ ap (λ m. cond (is_counted Bools f) 1 0 + m) (length-bools_at ty (suc i) fs)
    ∙ sym (sum_by-cons (λ x. cond (is_counted Bools x) 1 0) f fs)

get-first_bools : (ty i m : ℕ) (f : FieldEntry) (fs : List FieldEntry) (b : Bool) (x : FieldId) → slice_get (bools_at ty (suc i) fs) m ≡ Some x →
    slice_get (first_bools ty i f fs b) (cond b 1 0 + m) ≡ Some x
get-first_bools ty i m f fs true x is =
    (let e : 1 + m ≡ suc m = omega arith in ap (λ k. slice_get (field_at_index ty i ∷ bools_at ty (suc i) fs) k) e ∙ is)
get-first_bools ty i m f fs false x is = ap (λ k. slice_get (bools_at ty (suc i) fs) k) (zero-add m) ∙ is

get-bools_at : (ty i : ℕ) (fs : List FieldEntry) (k : ℕ) (f : FieldEntry) → slice_get fs k ≡ Some f → is_counted Bools f ≡ true →
    slice_get (bools_at ty i fs) (count_by (is_counted Bools) (take k fs)) ≡ Some (field_at_index ty (i + k))
get-bools_at ty i [] k f is counted = cc
get-bools_at ty i (g ∷ fs) zero f is counted =
    let same : g ≡ f = cc in
    let here : is_counted Bools g ≡ true = subst (λ h. is_counted Bools h ≡ true) (sym same) counted in
    let e : i ≡ i + 0 = omega arith in
    ap (λ b. slice_get (first_bools ty i g fs b) 0) here ∙ ap (λ j. Some (field_at_index ty j)) e
get-bools_at ty i (g ∷ fs) (suc k) f is counted =
    let e : suc i + k ≡ i + suc k = omega arith in
    ap (λ j. slice_get (bools_at ty i (g ∷ fs)) j) (sum_by-cons (λ x. cond (is_counted Bools x) 1 0) g (take k fs))
    ∙ get-first_bools ty i (count_by (is_counted Bools) (take k fs)) g fs (is_counted Bools g) (field_at_index ty (suc i + k))
    (get-bools_at ty (suc i) fs k f is counted)
    ∙ ap (λ j. Some (field_at_index ty j)) e

length-bools_from : (n : ℕ) (ts : List TypeEntry) → length (bools_from n ts) ≡ bools_in ts
length-bools_from n [] = refl
length-bools_from n (t ∷ ts) =
    length-append (bools_at n 0 t.fields) (bools_from (suc n) ts)
    ∙ ap (λ m. m + length (bools_from (suc n) ts)) (length-bools_at n 0 t.fields)
    ∙ ap (λ m. counted_in Bools t + m) (length-bools_from (suc n) ts)
    ∙ sym (sum_by-cons (counted_in Bools) t ts)

get-bools_from : (n : ℕ) (ts : List TypeEntry) (k j : ℕ) (t : TypeEntry) (f : FieldEntry) → slice_get ts k ≡ Some t → slice_get t.fields j ≡ Some f →
    is_counted Bools f ≡ true →
    slice_get (bools_from n ts) (bools_in (take k ts) + count_by (is_counted Bools) (take j t.fields)) ≡ Some (field_at_index (n + k) j)
get-bools_from n [] k j t f is has counted = cc
get-bools_from n (s ∷ ts) zero j t f is has counted =
    let e : n ≡ n + 0 = omega arith in
    let same : t ≡ s = cc in
    ap (λ i. slice_get (bools_from n (s ∷ ts)) i) (zero-add (count_by (is_counted Bools) (take j t.fields)))
    ∙ ap (λ u. slice_get (bools_from n (s ∷ ts)) (count_by (is_counted Bools) (take j u.fields))) same
    ∙ in_first (bools_at n 0 s.fields) (bools_from (suc n) ts) (count_by (is_counted Bools) (take j s.fields)) (field_at_index n j)
    (get-bools_at n 0 s.fields j f (ap (λ u. slice_get u.fields j) (sym same) ∙ has) counted ∙ ap (λ i. Some (field_at_index n i)) (zero-add j))
    ∙ ap (λ i. Some (field_at_index i j)) e
get-bools_from n (s ∷ ts) (suc k) j t f is has counted =
    let e : suc n + k ≡ n + suc k = omega arith in
    let sum : bools_in (s ∷ take k ts) ≡ counted_in Bools s + bools_in (take k ts) = sum_by-cons (counted_in Bools) s (take k ts) in
    let rank : ℕ = count_by (is_counted Bools) (take j t.fields) in
    let at : bools_in (s ∷ take k ts) + rank ≡ counted_in Bools s + (bools_in (take k ts) + rank) = omega (arith, sum) in
    ap (λ i. slice_get (bools_from n (s ∷ ts)) i) at
    ∙ in_second (bools_at n 0 s.fields) (bools_from (suc n) ts) (counted_in Bools s) (bools_in (take k ts) + rank) (field_at_index (suc n + k) j)
    (sym (length-bools_at n 0 s.fields)) (get-bools_from (suc n) ts k j t f is has counted)
    ∙ ap (λ i. Some (field_at_index i j)) e

-- ---- variables

abbrev var_number : ℕ → VarId
var_number n = record { 0 = n }

length-vars_from : (n : ℕ) (vs : List VarEntry) → length (vars_from n vs) ≡ length vs
length-vars_from n [] = refl
length-vars_from n (v ∷ vs) = ap (λ m. suc m) (length-vars_from (suc n) vs)

get-vars_from : (n : ℕ) (vs : List VarEntry) (k : ℕ) → k < length vs → slice_get (vars_from n vs) k ≡ Some (var_number (n + k))
get-vars_from n [] k inside = absurd (omega arith)
get-vars_from n (v ∷ vs) zero inside = (let e : n ≡ n + 0 = omega arith in ap (λ i. Some (var_number i)) e)
get-vars_from n (v ∷ vs) (suc k) inside =
    let e : suc n + k ≡ n + suc k = omega arith in
    get-vars_from (suc n) vs k (omega arith) ∙ ap (λ i. Some (var_number i)) e

-- ---- all tracks

pub length-tracks_of : (types : List TypeEntry) (vars : List VarEntry) → length (tracks_of types vars) ≡ track_count types vars
length-tracks_of types vars =
    length-append (map of_variant (variants_from 0 types)) (map of_bool (bools_from 0 types) ++ map of_var (vars_from 0 vars))
    ∙ ap (λ m. m + length (map of_bool (bools_from 0 types) ++ map of_var (vars_from 0 vars)))
    (length-map (variants_from 0 types) of_variant ∙ length-variants_from 0 types)
    ∙ ap (λ m. variants_in types + m)
    (length-append (map of_bool (bools_from 0 types)) (map of_var (vars_from 0 vars))
    ∙ ap (λ m. m + length (map of_var (vars_from 0 vars))) (length-map (bools_from 0 types) of_bool ∙ length-bools_from 0 types)
    ∙ ap (λ m. bools_in types + m) (length-map (vars_from 0 vars) of_var ∙ length-vars_from 0 vars))

pub mapped : {X Y : Type 0} (f : X → Y) (xs : List X) (k : ℕ) (x : X) → slice_get xs k ≡ Some x → slice_get (map f xs) k ≡ Some (f x)
mapped f [] k x is = cc
mapped f (y ∷ xs) zero x is = (let same : y ≡ x = cc in ap (λ z. Some (f z)) same)
mapped f (y ∷ xs) (suc k) x is = mapped f xs k x is

-- the tracks behind those of variants
after_variants : (types : List TypeEntry) (vars : List VarEntry) (k : ℕ) (x : TrackUse) →
    slice_get (map of_bool (bools_from 0 types) ++ map of_var (vars_from 0 vars)) k ≡ Some x →
    slice_get (tracks_of types vars) (variants_in types + k) ≡ Some x
after_variants types vars k x is =
    in_second (map of_variant (variants_from 0 types)) (map of_bool (bools_from 0 types) ++ map of_var (vars_from 0 vars)) (variants_in types) k x
    (sym (length-map (variants_from 0 types) of_variant ∙ length-variants_from 0 types)) is

-- ---- what an answer says

pub cond-some : {X : Type 0} (b : Bool) (x t : X) → cond b (Some x) None ≡ Some t → (b ≡ true) × (x ≡ t)
cond-some true x t is = (refl, cc)
cond-some false x t is = cc

pub and_then-some : {A B : Type 0} (g : A → Option B) (o : Option A) (t : B) → option_and_then g o ≡ Some t → (x : A) × (o ≡ Some x) × (g x ≡ Some t)
and_then-some g None t is = cc
and_then-some g (Some x) t is = (x, refl, is)

-- the type of a variant that is there
typed : (types : List TypeEntry) (v : VariantId) → v.index < variant_count types v.ty →
    (t : TypeEntry) × (slice_get types v.ty.0 ≡ Some t) × (v.index < count_of_variants t)
typed types v inside = elim (slice_get_cases types v.ty.0).1 as (λ _. (t : TypeEntry) × (slice_get types v.ty.0 ≡ Some t) × (v.index < count_of_variants t)) [
  | inl found ↦ (found.0, found.2, subst (λ o. v.index < option_map_or count_of_variants o 0) found.2 inside)
  | inr past ↦ absurd (let none : v.index < 0 = subst (λ o. v.index < option_map_or count_of_variants o 0) past.1 inside in omega (arith, none))
]

-- the type of a field that is there
pub fielded : (types : List TypeEntry) (f : FieldId) (entry : FieldEntry) → slice_get (fields_of types f.ty) f.index ≡ Some entry →
    (t : TypeEntry) × (slice_get types f.ty.0 ≡ Some t) × (fields_of types f.ty ≡ t.fields)
fielded types f entry is =
    elim (slice_get_cases types f.ty.0).1
    as (λ _. (t : TypeEntry) × (slice_get types f.ty.0 ≡ Some t) × (fields_of types f.ty ≡ t.fields)) [
      | inl found ↦ (found.0, found.2, ap (λ o. option_map_or (λ t. t.fields) o []) found.2)
      | inr past ↦ absurd (let none : None ≡ Some entry = ap (λ o. slice_get (option_map_or (λ t. t.fields) o []) f.index) (sym past.1) ∙ is in cc)
    ]

pub track-variant : (types : List TypeEntry) (vars : List VarEntry) (v : VariantId) (t : Track) → variant_track types v ≡ Some t →
    slice_get (tracks_of types vars) t.0 ≡ Some (of_variant v)
track-variant types vars v t is =
    let both = cond-some (nat_lt v.index (variant_count types v.ty)) (track_at (variants_in (take v.ty.0 types) + v.index)) t is in
    let found = typed types v (ltb-true v.index (variant_count types v.ty) both.0) in
    ap (λ (u : Track). slice_get (tracks_of types vars) u.0) (sym both.1)
    ∙ in_first (map of_variant (variants_from 0 types)) (map of_bool (bools_from 0 types) ++ map of_var (vars_from 0 vars))
    (variants_in (take v.ty.0 types) + v.index) (of_variant v)
    (mapped of_variant (variants_from 0 types) (variants_in (take v.ty.0 types) + v.index) v
    (get-variants_from 0 types v.ty.0 v.index found.0 found.1 found.2 ∙ ap (λ i. Some (variant_at i v.index)) (zero-add v.ty.0)))

pub track-bool : (types : List TypeEntry) (vars : List VarEntry) (f : FieldId) (t : Track) → bool_track types f ≡ Some t →
    slice_get (tracks_of types vars) t.0 ≡ Some (of_bool f)
track-bool types vars f t is =
    let (entry, has, then) = and_then-some
    (λ entry. cond (is_counted Bools entry) (Some (track_at (variants_in types + (bools_in (take f.ty.0 types) + rank Bools types f)))) None)
    (slice_get (fields_of types f.ty) f.index) t is in
    let both = cond-some (is_counted Bools entry) (track_at (variants_in types + (bools_in (take f.ty.0 types) + rank Bools types f))) t then in
    let (typ, at, same) = fielded types f entry has in
    ap (λ (u : Track). slice_get (tracks_of types vars) u.0) (sym both.1)
    ∙ after_variants types vars (bools_in (take f.ty.0 types) + rank Bools types f) (of_bool f)
    (in_first (map of_bool (bools_from 0 types)) (map of_var (vars_from 0 vars)) (bools_in (take f.ty.0 types) + rank Bools types f) (of_bool f)
    (mapped of_bool (bools_from 0 types) (bools_in (take f.ty.0 types) + rank Bools types f) f
    (ap (λ fs. slice_get (bools_from 0 types) (bools_in (take f.ty.0 types) + count_by (is_counted Bools) (take f.index fs))) same
    ∙ get-bools_from 0 types f.ty.0 f.index typ entry at (ap (λ fs. slice_get fs f.index) (sym same) ∙ has) both.0
    ∙ ap (λ i. Some (field_at_index i f.index)) (zero-add f.ty.0))))

pub track-var : (types : List TypeEntry) (vars : List VarEntry) (v : VarId) (t : Track) → var_track types vars v ≡ Some t →
    slice_get (tracks_of types vars) t.0 ≡ Some (of_var v)
track-var types vars v t is =
    let both = cond-some (nat_lt v.0 (length vars)) (track_at (variants_in types + (bools_in types + v.0))) t is in
    ap (λ (u : Track). slice_get (tracks_of types vars) u.0) (sym both.1)
    ∙ after_variants types vars (bools_in types + v.0) (of_var v)
    (in_second (map of_bool (bools_from 0 types)) (map of_var (vars_from 0 vars)) (bools_in types) v.0 (of_var v)
    (sym (length-map (bools_from 0 types) of_bool ∙ length-bools_from 0 types))
    (mapped of_var (vars_from 0 vars) v.0 v
    (get-vars_from 0 vars v.0 (ltb-true v.0 (length vars) both.0) ∙ ap (λ i. Some (var_number i)) (zero-add v.0))))
