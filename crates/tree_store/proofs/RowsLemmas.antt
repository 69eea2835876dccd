-- On rows: those of a list that count, each at its number.
use Rattle.std.proofs.Common.{◌≡◌, ℕ, ◌+◌, ◌<◌, Bool, true, false, cond, inl, inr, List, [], ◌∷◌, ◌++◌, length, take, slice_get, Option, Some, None, Contains}
use Rattle.std.proofs.Common.{refl, sym, ap, ◌∙◌, subst, arith}
use Rattle.std.specs.Prelude.{count_by, is_some}
use Rattle.std.specs.Option.{option_map_or, option_and_then}
use Rattle.std.proofs.lemmas.Bool.{cases_eq}
use Rattle.std.proofs.lemmas.List.{length_push}
use Rattle.std.proofs.lemmas.List.Elements.{Contains-append_left, Contains-append_right, Contains-append_cases}
use Rattle.std.proofs.lemmas.Option.{slice_get_cases, slice_get_within}
use Rattle.gta_theory.proofs.ListedLemmas.{slice_get-front, slice_get-last, slice_get-push}
use Rattle.gta_theory.proofs.ListsLemmas.{Contains-first, Contains-cases, Contains-none}
use Rattle.ws2s_core.specs.declared.track.Track.{Track}
use Rattle.store_core.specs.declared.ids.TypeId.{TypeId}
use Rattle.store_core.specs.declared.ids.FieldId.{FieldId}
use Rattle.store_core.specs.Tables.{TypeEntry}
use Rattle.tree_encode.specs.Tracks.{bool_track}
use Rattle.tree_encode.proofs.IndexLemmas.{count-more, counted-no}
use Rattle.tree_encode.proofs.TracksLemmas.{cond-some, and_then-some}
use Rattle.tree_store.specs.declared.rows.Row.{Row}
use Rattle.tree_store.specs.Rows.{number_in, AreNumbered, AreBools, AreRows, IsRow, field_in}

-- ---- numbers

-- what has a number counts, and as many stand before it
pub counts-at : {X : Type 0} (counts : X → Bool) (xs : List X) (i j : ℕ) → number_in counts xs i ≡ Some j →
    (x : X) × (slice_get xs i ≡ Some x) × (counts x ≡ true) × (count_by counts (take i xs) ≡ j)
counts-at counts xs i j is =
    let (x, at, then) = and_then-some (λ x. cond (counts x) (Some (count_by counts (take i xs))) None) (slice_get xs i) j is in
    let (counted, same) = cond-some (counts x) (count_by counts (take i xs)) j then in
    (x, at, counted, same)

cond-none : {X : Type 0} (b : Bool) (x : X) → cond b (Some x) None ≡ None → b ≡ false
cond-none true x is = cc
cond-none false x is = refl

-- what has none doesn't count
counts-not : {X : Type 0} (counts : X → Bool) (xs : List X) (i : ℕ) → number_in counts xs i ≡ None → option_map_or counts (slice_get xs i) false ≡ false
counts-not counts xs i is = elim (slice_get_cases xs i).1 as (λ _. option_map_or counts (slice_get xs i) false ≡ false) [
  | inl found ↦ ap (λ o. option_map_or counts o false) found.2
      ∙ cond-none (counts found.0) (count_by counts (take i xs))
      (sym (ap (λ o. option_and_then (λ x. cond (counts x) (Some (count_by counts (take i xs))) None) o) found.2) ∙ is)
  | inr past ↦ ap (λ o. option_map_or counts o false) past.1
]

pub AreNumbered-none : {X Y : Type 0} (counts : X → Bool) (name : ℕ → Y) (xs : List X) → AreNumbered counts name xs 0 []
AreNumbered-none counts name xs = record {
  count = refl;
  each = λ j y at. absurd (let none : None ≡ Some y = at in cc);
  all = λ i j inside is. absurd (omega arith);
}

-- one more that counts
pub AreNumbered-yes : {X Y : Type 0} (counts : X → Bool) (name : ℕ → Y) (xs : List X) (n j : ℕ) (ys : List Y) (y : Y) →
    AreNumbered counts name xs n ys → number_in counts xs n ≡ Some j → y ≡ name n → AreNumbered counts name xs (n + 1) (ys ++ y ∷ [])
AreNumbered-yes {X} {Y} counts name xs n j ys y old is named = record {
  count = length_push ys y ∙ ap (λ m. m + 1) old.count ∙ more;
  each = each;
  all = all;
}
  where
    here : (x : X) × (slice_get xs n ≡ Some x) × (counts x ≡ true) × (count_by counts (take n xs) ≡ j)
    here = counts-at counts xs n j is

    last : length ys ≡ j
    last = old.count ∙ here.3

    more : count_by counts (take n xs) + 1 ≡ count_by counts (take (n + 1) xs)
    more =
        ap (λ b. count_by counts (take n xs) + cond b 1 0) (sym (ap (λ o. option_map_or counts o false) here.1 ∙ here.2))
        ∙ sym (count-more counts xs n (slice_get_within xs n here.0 here.1))

    each : (k : ℕ) (z : Y) → slice_get (ys ++ y ∷ []) k ≡ Some z → (i : ℕ) × (i < n + 1) × (number_in counts xs i ≡ Some k) × (z ≡ name i)
    each k z at =
        elim (slice_get-push ys y z k at) as (λ _. (i : ℕ) × (i < n + 1) × (number_in counts xs i ≡ Some k) × (z ≡ name i)) [
          | inl before ↦ (let (i, inside, number, name_is) = old.each k z before in (i, omega (arith, inside), number, name_is))
          | inr end ↦ (n, omega arith, is ∙ ap (λ m. Some m) (sym (end.0 ∙ last)), sym end.1 ∙ named)
        ]

    all : (i k : ℕ) → i < n + 1 → number_in counts xs i ≡ Some k → slice_get (ys ++ y ∷ []) k ≡ Some (name i)
    all i k inside number = elim (cases_eq i n) as (λ _. slice_get (ys ++ y ∷ []) k ≡ Some (name i)) [
      | inl same ↦
          (let both : Some k ≡ Some j = sym number ∙ ap (λ m. number_in counts xs m) same ∙ is in
          let place : k ≡ length ys = one k j both ∙ sym last in
          ap (λ m. slice_get (ys ++ y ∷ []) m) place ∙ slice_get-last ys y ∙ ap (λ z. Some z) (named ∙ ap name (sym same)))
      | inr apart ↦
          (let at = old.all i k (omega (arith, inside, apart)) number in
          slice_get-front ys (y ∷ []) k (slice_get_within ys k (name i) at) ∙ at)
    ]
      where
        one : (a b : ℕ) → Some a ≡ Some b → a ≡ b
        one a b e = cc

-- one more that doesn't
pub AreNumbered-no : {X Y : Type 0} (counts : X → Bool) (name : ℕ → Y) (xs : List X) (n : ℕ) (ys : List Y) → n < length xs →
    AreNumbered counts name xs n ys → number_in counts xs n ≡ None → AreNumbered counts name xs (n + 1) ys
AreNumbered-no {X} {Y} counts name xs n ys inside old is = record {
  count = counted-no counts xs n (length ys) (length ys) inside old.count (counts-not counts xs n is) refl;
  each = λ j y at. let (i, below, number, named) = old.each j y at in (i, omega (arith, below), number, named);
  all = all;
}
  where
    all : (i k : ℕ) → i < n + 1 → number_in counts xs i ≡ Some k → slice_get ys k ≡ Some (name i)
    all i k below number = elim (cases_eq i n) as (λ _. slice_get ys k ≡ Some (name i)) [
      | inl same ↦ absurd (let both : None ≡ Some k = sym is ∙ ap (λ m. number_in counts xs m) (sym same) ∙ number in cc)
      | inr apart ↦ old.all i k (omega (arith, below, apart)) number
    ]

-- ---- bool fields

pub AreBools-none : (types : List TypeEntry) (ty : TypeId) → AreBools types ty 0 []
AreBools-none types ty = record {
  each = λ f t there. absurd (Contains-none (f, t) there);
  all = λ i t inside is. absurd (omega arith);
}

pub AreBools-yes : (types : List TypeEntry) (ty : TypeId) (n : ℕ) (bools : List (FieldId × Track)) (track : Track) → AreBools types ty n bools →
    bool_track types (field_in ty n) ≡ Some track → AreBools types ty (n + 1) (bools ++ (field_in ty n, track) ∷ [])
AreBools-yes types ty n bools track old is = record { each = each; all = all }
  where
    first : (f g : FieldId) (t u : Track) → ◌≡◌ {A = FieldId × Track} (f, t) (g, u) → (f ≡ g) × (t ≡ u)
    first f g t u e = (ap (λ (p : FieldId × Track). p.0) e, ap (λ (p : FieldId × Track). p.1) e)

    each : (f : FieldId) (t : Track) → Contains (bools ++ (field_in ty n, track) ∷ []) (f, t) → (f.ty ≡ ty) × (bool_track types f ≡ Some t)
    each f t there =
        elim (Contains-append_cases bools ((field_in ty n, track) ∷ []) (f, t) there) as (λ _. (f.ty ≡ ty) × (bool_track types f ≡ Some t)) [
          | inl before ↦ old.each f t before
          | inr end ↦ elim (Contains-cases (field_in ty n, track) (f, t) [] end) as (λ _. (f.ty ≡ ty) × (bool_track types f ≡ Some t)) [
            | inl same ↦ (let (e, h) = first (field_in ty n) f track t same in
                (ap (λ (g : FieldId). g.ty) (sym e), ap (λ g. bool_track types g) (sym e) ∙ is ∙ ap (λ u. Some u) h))
            | inr none ↦ absurd (Contains-none (f, t) none)
          ]
        ]

    all : (i : ℕ) (t : Track) → i < n + 1 → bool_track types (field_in ty i) ≡ Some t → Contains (bools ++ (field_in ty n, track) ∷ []) (field_in ty i, t)
    all i t inside at = elim (cases_eq i n) as (λ _. Contains (bools ++ (field_in ty n, track) ∷ []) (field_in ty i, t)) [
      | inl same ↦
          (let both : Some track ≡ Some t = sym is ∙ ap (λ m. bool_track types (field_in ty m)) (sym same) ∙ at in
          Contains-append_right bools ((field_in ty n, track) ∷ []) (field_in ty i, t)
          (let P : ℕ → Track → Type 0 = λ m u. Contains {X = FieldId × Track} ((field_in ty n, track) ∷ []) (field_in ty m, u) in
          subst (λ m. P m t) (sym same) (subst (λ u. P n u) (one track t both) (Contains-first (field_in ty n, track) []))))
      | inr apart ↦ Contains-append_left bools ((field_in ty n, track) ∷ []) (field_in ty i, t) (old.all i t (omega (arith, inside, apart)) at)
    ]
      where
        one : (a b : Track) → Some a ≡ Some b → a ≡ b
        one a b e = cc

pub AreBools-no : (types : List TypeEntry) (ty : TypeId) (n : ℕ) (bools : List (FieldId × Track)) → AreBools types ty n bools →
    bool_track types (field_in ty n) ≡ None → AreBools types ty (n + 1) bools
AreBools-no types ty n bools old is = record { each = old.each; all = all }
  where
    all : (i : ℕ) (t : Track) → i < n + 1 → bool_track types (field_in ty i) ≡ Some t → Contains bools (field_in ty i, t)
    all i t inside at = elim (cases_eq i n) as (λ _. Contains bools (field_in ty i, t)) [
      | inl same ↦ absurd (let both : None ≡ Some t = sym is ∙ ap (λ m. bool_track types (field_in ty m)) (sym same) ∙ at in cc)
      | inr apart ↦ old.all i t (omega (arith, inside, apart)) at
    ]

-- ---- rows

pub AreRows-push : (types : List TypeEntry) (n : ℕ) (rows : List Row) (row : Row) → AreRows types n rows → IsRow types (record { 0 = n }) row →
    AreRows types (n + 1) (rows ++ row ∷ [])
AreRows-push types n rows row old is = record {
  count = length_push rows row ∙ ap (λ m. m + 1) old.count;
  each = λ k other at. elim (slice_get-push rows row other k at) as (λ _. IsRow types (record { 0 = k }) other) [
    | inl before ↦ old.each k other before
    | inr end ↦ (let P : ℕ → Row → Type 0 = λ m r. IsRow types (record { 0 = m }) r in
        subst (λ m. P m other) (sym (end.0 ∙ old.count)) (subst (λ r. P n r) end.1 is))
  ];
}

-- ---- one step of each loop

some-of : {X : Type 0} (o : Option X) → is_some o ≡ true → (x : X) × (o ≡ Some x)
some-of None e = cc
some-of (Some x) e = (x, refl)

none-of : {X : Type 0} (o : Option X) → is_some o ≡ false → o ≡ None
none-of None e = refl
none-of (Some x) e = cc

pub numbered-pushed : {X Y : Type 0} (counts : X → Bool) (name : ℕ → Y) (xs : List X) (n : ℕ) (ys new : List Y) (o : Option ℕ) (b : Bool) →
    AreNumbered counts name xs n ys → o ≡ number_in counts xs n → b ≡ is_some o → b ≡ true → new ≡ ys ++ name n ∷ [] →
    AreNumbered counts name xs (n + 1) new
numbered-pushed counts name xs n ys new o b old is tested on pushed =
    let (j, found) = some-of o (sym tested ∙ on) in
    subst (λ zs. AreNumbered counts name xs (n + 1) zs) (sym pushed) (AreNumbered-yes counts name xs n j ys (name n) old (sym is ∙ found) refl)

pub numbered-kept : {X Y : Type 0} (counts : X → Bool) (name : ℕ → Y) (xs : List X) (n : ℕ) (ys new : List Y) (o : Option ℕ) (b : Bool) →
    n < length xs → AreNumbered counts name xs n ys → o ≡ number_in counts xs n → b ≡ is_some o → b ≡ false → new ≡ ys →
    AreNumbered counts name xs (n + 1) new
numbered-kept counts name xs n ys new o b inside old is tested off kept =
    subst (λ zs. AreNumbered counts name xs (n + 1) zs) (sym kept)
    (AreNumbered-no counts name xs n ys inside old (sym is ∙ none-of o (sym tested ∙ off)))
