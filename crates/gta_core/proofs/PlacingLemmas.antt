-- Given roots in a table.
use Rattle.std.proofs.Common.{◌≡◌, ℕ, zero, suc, ◌+◌, ◌-◌, ◌*◌, ◌^◌, ◌/◌, ◌%◌, ◌<◌, ◌≤◌, Bool, true, false, List, [], ◌∷◌, ◌++◌, length, get_or}
use Rattle.std.proofs.Common.{Option, Some, None, refl, sym, ◌∙◌, ap, subst, inl, inr, arith, length-append}
use Rattle.std.specs.Prelude.{IsSome, is_some, unwrap_or, nat_lt, ◌&&◌, if◌then◌else◌, slice_get, option_map, option_and_then}
use Rattle.std.specs.List.{range_with_len}
use Rattle.std.proofs.lemmas.Bool.{cases_lt, false≢true, lt-ltb}
use Rattle.std.proofs.lemmas.Bool.Decides.{nat_tests}
use Rattle.std.proofs.lemmas.List.FromFn.{length-range_with_len, get_or-range_with_len}
use Rattle.std.proofs.lemmas.Option.{slice_get-get_or, slice_get_within, slice_get_past}
use Rattle.std.proofs.lemmas.Nat.{mul-add-lt}
use Rattle.std.proofs.Math.Nat.{mul_comm, mul-le-mul_left}
use Rattle.bdd_nodes.specs.declared.node_ref.NodeRef.{NodeRef}
use Rattle.gta_theory.specs.Guides.{Spaces, left, right}
use Rattle.gta_theory.proofs.ListedLemmas.{slice_get-front, slice_get-last, slice_get-push}
use Rattle.gta_core.specs.declared.part.Part.{Part}
use Rattle.gta_core.specs.declared.build.SpacePart.{SpacePart}
use Rattle.gta_core.specs.Auto.{place_in}
use Rattle.gta_core.specs.Given.{given_states, given_root}
use Rattle.gta_core.specs.Placing.{Grows, Shares, HasGiven, IsPlaced, HasPlace, ArePlaced}

not_below : (a b : ℕ) → b ≤ a → nat_lt a b ≡ false
not_below a b past = grind (arith, nat_tests)

-- one number more
range-more : (a n : ℕ) → range_with_len a (n + 1) ≡ range_with_len a n ++ (a + n) ∷ []
range-more a zero = let e : a ≡ a + 0 = omega arith in ap (λ (k : ℕ). k ∷ []) e
range-more a (suc n) =
    let e : (a + 1) + n ≡ a + suc n = omega arith in
    let f : suc n + 1 ≡ suc (n + 1) = omega arith in
    ap (range_with_len a) f ∙ ap (λ (xs : List ℕ). a ∷ xs) (range-more (a + 1) n ∙ ap (λ (k : ℕ). range_with_len (a + 1) n ++ k ∷ []) e)

pub range-next : (n : ℕ) → range_with_len 0 (n + 1) ≡ range_with_len 0 n ++ n ∷ []
range-next n = let e : 0 + n ≡ n = omega arith in range-more 0 n ∙ ap (λ (k : ℕ). range_with_len 0 n ++ k ∷ []) e

range-at : (n i : ℕ) → i < n → slice_get (range_with_len 0 n) i ≡ Some i
range-at n i inside =
    let e : get_or (range_with_len 0 n) i 0 ≡ i = get_or-range_with_len 0 n i 0 inside ∙ (omega arith) in
    slice_get-get_or (range_with_len 0 n) i 0 (omega (arith, length-range_with_len 0 n))
    ∙ ap (λ (k : ℕ). let o : Option ℕ = Some k in o) e

range-past : (n i : ℕ) → n ≤ i → slice_get (range_with_len 0 n) i ≡ None
range-past n i past = slice_get_past (range_with_len 0 n) i (omega (arith, length-range_with_len 0 n))

-- grown lists
pub Grows-append : (old more : List NodeRef) → Grows old (old ++ more)
Grows-append old more = record { longer = omega (arith, length-append old more); kept = λ place inside. slice_get-front old more place inside }

pub Grows-trans : (old middle new : List NodeRef) → Grows old middle → Grows middle new → Grows old new
Grows-trans old middle new first second = record {
  longer = omega (arith, first.longer, second.longer);
  kept = λ place inside. second.kept place (omega (arith, first.longer)) ∙ first.kept place inside;
}

slice_get-after : {X : Type 0} (xs ys : List X) (k : ℕ) → slice_get (xs ++ ys) (length xs + k) ≡ slice_get ys k
slice_get-after [] ys k = let e : 0 + k ≡ k = omega arith in ap (slice_get ys) e
slice_get-after (x ∷ xs) ys k =
    let e : suc (length xs) + k ≡ suc (length xs + k) = omega arith in ap (slice_get (x ∷ xs ++ ys)) e ∙ slice_get-after xs ys k

some-is : (x y : ℕ) → ◌≡◌ {A = Option ℕ} (Some x) (Some y) → x ≡ y
some-is x y e = cc

-- each given root with a number of its own
pub Shares-each : (given old : List NodeRef) → Shares given old (range_with_len 0 (length given)) (old ++ given)
Shares-each given old = record {
  grown = Grows-append old given;
  many = length-range_with_len 0 (length given);
  at = λ i cell there.
      let inside : i < length given = omega (arith, slice_get_within (range_with_len 0 (length given)) i cell there, length-range_with_len 0 (length given)) in
      let same : cell ≡ i = some-is cell i (sym there ∙ range-at (length given) i inside) in
      ap (λ (k : ℕ). slice_get (old ++ given) (length old + k)) same ∙ slice_get-after old given i;
  used = λ more inside. (more, range-at (length given) more (omega (arith, length-append old given)));
}

-- what has a given root has it in a grown list
pub HasGiven-grown : (old new : List NodeRef) → Grows old new → (place : Option ℕ) (given : Option NodeRef) →
    HasGiven old place given → HasGiven new place given
HasGiven-grown old new grows None given has = has
HasGiven-grown old new grows (Some p) None has = absurd (false≢true has.0)
HasGiven-grown old new grows (Some p) (Some root) has = (refl, grows.kept p (slice_get_within old p root has.1) ∙ has.1)

columns-some : (rows columns i : ℕ) → i < rows * columns → 0 < columns
columns-some rows columns i inside = elim (cases_lt 0 columns) [
  | inl some ↦ some
  | inr none ↦ absurd (omega (arith, mul-le-mul_left {m = columns} {n = 0} rows none))
]

row-inside : (rows columns i : ℕ) → i < rows * columns → i / columns < rows
row-inside rows columns i inside = elim (cases_lt (i / columns) rows) [
  | inl less ↦ less
  | inr past ↦
      let wide = columns-some rows columns i inside in
      let split : columns * (i / columns) + i % columns ≡ i = omega arith in
      absurd (omega (arith, mul-le-mul_left {m = rows} {n = i / columns} columns past, mul_comm rows columns))
]

-- a part whose classes are the states
module _ (states initial : ℕ) (children : ℕ × ℕ) (first rows columns : ℕ) (cells : List ℕ) where
  abbrev pub counted : Part
  counted = record {
    states = states;
    initial = initial;
    children = children;
    first = first;
    rows = range_with_len 0 rows;
    columns = range_with_len 0 columns;
    width = columns;
    cells = cells;
  }

  place-inside : (l r : ℕ) → l < rows → r < columns →
      place_in counted l r ≡ option_map (λ cell. first + cell) (slice_get cells (l * columns + r))
  place-inside l r l_in r_in =
      ap (λ (o : Option ℕ). option_and_then (λ row. option_and_then (λ column.
      option_map (λ cell. first + cell) (slice_get cells (row * columns + column))) (slice_get (range_with_len 0 columns) r)) o) (range-at rows l l_in)
      ∙ ap (λ (o : Option ℕ). option_and_then (λ column. option_map (λ cell. first + cell) (slice_get cells (l * columns + column))) o)
      (range-at columns r r_in)

  place-above : (l r : ℕ) → rows ≤ l → place_in counted l r ≡ None
  place-above l r past =
      ap (λ (o : Option ℕ). option_and_then (λ row. option_and_then (λ column.
      option_map (λ cell. first + cell) (slice_get cells (row * columns + column))) (slice_get (range_with_len 0 columns) r)) o) (range-past rows l past)

  place-beside : (l r : ℕ) → columns ≤ r → place_in counted l r ≡ None
  place-beside l r past =
      ap (λ (o : Option ℕ). option_and_then (λ row. option_and_then (λ column.
      option_map (λ cell. first + cell) (slice_get cells (row * columns + column))) o) (slice_get (range_with_len 0 rows) l)) (range-past columns r past)
      ∙ pick (slice_get (range_with_len 0 rows) l)
    where
      pick : (o : Option ℕ) → option_and_then (λ row. let n : Option ℕ = None in n) o ≡ None
      pick None = refl
      pick (Some row) = refl

  -- each place behind the first is that of a pair
  pub HasPlace-counted : (given old new : List NodeRef) → length old ≡ first → length given ≡ rows * columns → Shares given old cells new →
      (more : ℕ) → length old + more < length new → HasPlace counted (length old + more)
  HasPlace-counted given old new at_first many shares more inside =
      let used = shares.used more inside in
      let i = used.0 in
      let below : i < rows * columns = omega (arith, slice_get_within cells i more used.1, shares.many) in
      let wide = columns-some rows columns i below in
      let split : columns * (i / columns) + i % columns ≡ i = omega arith in
      let r_in : i % columns < columns = omega arith in
      let l_in = row-inside rows columns i below in
      let at : (i / columns) * columns + i % columns ≡ i = ap (λ (k : ℕ). k + i % columns) (mul_comm (i / columns) columns) ∙ split in
      record {
        left = i / columns;
        right = i % columns;
        there = place-inside (i / columns) (i % columns) l_in r_in
            ∙ ap (λ (k : ℕ). option_map (λ cell. first + cell) (slice_get cells k)) at
            ∙ ap (λ (o : Option ℕ). option_map (λ cell. first + cell) o) used.1
            ∙ ap (λ (k : ℕ). let o : Option ℕ = Some (k + more) in o) (sym at_first);
      }

-- a root that is given, by whether the states are known
module _ (g : Spaces) (spaces : List SpacePart) (s l r : ℕ) where
  abbrev L : ℕ
  L = given_states spaces (left g s)

  abbrev R : ℕ
  R = given_states spaces (right g s)

  abbrev found : Option NodeRef
  found = option_and_then (λ part. slice_get part.roots (l * R + r)) (slice_get spaces s)

  abbrev picked : Bool → Bool → Option NodeRef
  picked b c = if b && c then found else None

  pub given_root-known : l < L → r < R → given_root g spaces s l r ≡ found
  given_root-known l_in r_in = ap (λ (b : Bool). picked b (nat_lt r R)) (lt-ltb l L l_in) ∙ ap (λ (c : Bool). picked true c) (lt-ltb r R r_in)

  pub given_root-above : L ≤ l → given_root g spaces s l r ≡ None
  given_root-above past = ap (λ (b : Bool). picked b (nat_lt r R)) (not_below l L past)

  pub given_root-beside : R ≤ r → given_root g spaces s l r ≡ None
  given_root-beside past = ap (λ (c : Bool). picked (nat_lt l L) c) (not_below r R past) ∙ pick (nat_lt l L)
    where
      pick : (b : Bool) → picked b false ≡ None
      pick true = refl
      pick false = refl

  pub given_root-unknown : slice_get spaces s ≡ None → given_root g spaces s l r ≡ None
  given_root-unknown unknown =
      ap (λ (o : Option SpacePart). if nat_lt l L && nat_lt r R then option_and_then (λ part. slice_get part.roots (l * R + r)) o else None) unknown
      ∙ pick (nat_lt l L && nat_lt r R)
    where
      pick : (b : Bool) → (let none : Option NodeRef = None in (if b then none else none) ≡ none)
      pick true = refl
      pick false = refl

  -- a root is given for known states alone
  pub record IsKnown : Type 0 where
    pub left_in : l < L
    pub right_in : r < R
    pub some : IsSome found

  pub given_root-IsKnown : IsSome (given_root g spaces s l r) → IsKnown
  given_root-IsKnown some = elim (cases_lt l L) [
    | inl l_in ↦ elim (cases_lt r R) [
      | inl r_in ↦ record {
        left_in = l_in;
        right_in = r_in;
        some = subst (λ (o : Option NodeRef). IsSome o) (given_root-known l_in r_in) some;
      }
      | inr past ↦ absurd (false≢true (subst (λ (o : Option NodeRef). is_some o ≡ true) (given_root-beside past) some))
    ]
    | inr past ↦ absurd (false≢true (subst (λ (o : Option NodeRef). is_some o ≡ true) (given_root-above past) some))
  ]

-- the part that is made of what a space is given
module _ (g : Spaces) (spaces : List SpacePart) (s : ℕ) (given : SpacePart) (there : slice_get spaces s ≡ Some given) (children : ℕ × ℕ)
    (at_space : slice_get g s ≡ Some children) (old new : List NodeRef) (cells : List ℕ)
    (many : length given.roots ≡ given_states spaces (left g s) * given_states spaces (right g s)) (shares : Shares given.roots old cells new) where
  abbrev height : ℕ
  height = given_states spaces (left g s)

  abbrev breadth : ℕ
  breadth = given_states spaces (right g s)

  abbrev pub made : Part
  made = counted given.states given.initial children (length old) height breadth cells

  root-made : (l r : ℕ) → HasGiven new (place_in made l r) (given_root g spaces s l r)
  root-made l r = elim (cases_lt l (given_states spaces (left g s))) as (λ _. HasGiven new (place_in made l r) (given_root g spaces s l r)) [
    | inl l_in ↦ elim (cases_lt r (given_states spaces (right g s))) as (λ _. HasGiven new (place_in made l r) (given_root g spaces s l r)) [
      | inl r_in ↦ both l_in r_in
      | inr past ↦ outside (place-beside given.states given.initial children (length old) height breadth cells l r past)
          (given_root-beside g spaces s l r past)
    ]
    | inr past ↦ outside (place-above given.states given.initial children (length old) height breadth cells l r past)
        (given_root-above g spaces s l r past)
  ]
    where
      outside : place_in made l r ≡ None → given_root g spaces s l r ≡ None → HasGiven new (place_in made l r) (given_root g spaces s l r)
      outside none nothing = subst (λ (o : Option ℕ). HasGiven new o (given_root g spaces s l r)) (sym none) nothing

      some_inside : (xs : List NodeRef) (i : ℕ) → i < length xs → IsSome (slice_get xs i)
      some_inside [] i below = absurd (omega arith)
      some_inside (x ∷ xs) zero below = refl
      some_inside (x ∷ xs) (suc i) below = some_inside xs i (omega arith)

      inside : (i : ℕ) → i < length given.roots → (o : Option ℕ) → slice_get cells i ≡ o →
          HasGiven new (option_map (λ cell. length old + cell) o) (slice_get given.roots i)
      inside i below None at =
          absurd (false≢true (ap (λ (o : Option ℕ). is_some o) (sym at ∙ slice_get-get_or cells i 0 (omega (arith, shares.many)))))
      inside i below (Some cell) at = (some_inside given.roots i below, shares.at i cell at)

      both : l < given_states spaces (left g s) → r < given_states spaces (right g s) → HasGiven new (place_in made l r) (given_root g spaces s l r)
      both l_in r_in =
          let L = given_states spaces (left g s) in
          let R = given_states spaces (right g s) in
          let i = l * R + r in
          let below : i < length given.roots = omega (arith, mul-add-lt l R r L l_in r_in, mul_comm L R, many) in
          let of_place : place_in made l r ≡ option_map (λ cell. length old + cell) (slice_get cells i) =
          place-inside given.states given.initial children (length old) height breadth cells l r l_in r_in in
          let of_given : given_root g spaces s l r ≡ slice_get given.roots i =
          given_root-known g spaces s l r l_in r_in ∙ ap (λ (o : Option SpacePart). option_and_then (λ part. slice_get part.roots i) o) there in
          subst (λ (o : Option ℕ). HasGiven new o (given_root g spaces s l r)) (sym of_place)
          (subst (λ (o : Option NodeRef). HasGiven new (option_map (λ cell. length old + cell) (slice_get cells i)) o) (sym of_given)
          (inside i below (slice_get cells i) refl))

  pub IsPlaced-made : given.states ≤ 2 ^ 31 → IsPlaced g spaces new s made
  IsPlaced-made few = record {
    children = at_space;
    states = ap (λ (o : Option SpacePart). option_map (λ part. part.states) o) there;
    initial = ap (λ (o : Option SpacePart). option_map (λ part. part.initial) o) there;
    few = few;
    root = root-made;
  }

  pub HasPlace-made : (more : ℕ) → length old + more < length new → HasPlace made (length old + more)
  HasPlace-made more inside =
      HasPlace-counted given.states given.initial children (length old) height breadth cells given.roots old new refl many shares more inside

-- an element inside
pub unwrap-inside : {X : Type 0} (xs : List X) (i : ℕ) (d : X) → i < length xs → slice_get xs i ≡ Some (unwrap_or (slice_get xs i) d)
unwrap-inside [] i d inside = absurd (omega arith)
unwrap-inside (x ∷ xs) zero d inside = refl
unwrap-inside (x ∷ xs) (suc i) d inside = unwrap-inside xs i d (omega arith)

-- the parts so far
module _ (g : Spaces) (spaces : List SpacePart) where
  pub ArePlaced-none : ArePlaced g spaces [] []
  ArePlaced-none = record { each = λ s part there. absurd cc; used = λ place inside. absurd (omega arith) }

  grown : (old new : List NodeRef) → Grows old new → (s : ℕ) (part : Part) → IsPlaced g spaces old s part → IsPlaced g spaces new s part
  grown old new grows s part placed = record {
    children = placed.children;
    states = placed.states;
    initial = placed.initial;
    few = placed.few;
    root = λ l r. HasGiven-grown old new grows (place_in part l r) (given_root g spaces s l r) (placed.root l r);
  }

  pub ArePlaced-push : (parts : List Part) (old new : List NodeRef) (part : Part) → ArePlaced g spaces parts old → Grows old new →
      IsPlaced g spaces new (length parts) part →
      ((more : ℕ) → length old + more < length new → HasPlace part (length old + more)) → ArePlaced g spaces (parts ++ part ∷ []) new
  ArePlaced-push parts old new part so_far grows placed used = record {
    each = λ s q there. elim (slice_get-push parts part q s there) as (λ _. IsPlaced g spaces new s q) [
      | inl before ↦ grown old new grows s q (so_far.each s q before)
      | inr last ↦ subst (λ (k : ℕ). IsPlaced g spaces new k q) (sym last.0) (subst (IsPlaced g spaces new (length parts)) last.1 placed)
    ];
    used = λ place inside. elim (cases_lt place (length old)) [
      | inl before ↦
          let u = so_far.used place before in
          (u.0, u.1, slice_get-front parts (part ∷ []) u.0 (slice_get_within parts u.0 u.1 u.2) ∙ u.2, u.3)
      | inr after ↦
          let e : length old + (place - length old) ≡ place = omega arith in
          (length parts, part, slice_get-last parts part, subst (HasPlace part) e (used (place - length old) (omega arith)))
    ];
  }
