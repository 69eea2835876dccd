-- The part of a space by merged classes.
use Rattle.std.proofs.Common.{◌≡◌, ℕ, ◌+◌, ◌-◌, ◌*◌, ◌/◌, ◌%◌, ◌<◌, ◌≤◌, List, length, get_or, Option, Some, None, ◌⊎◌, inl, inr}
use Rattle.std.proofs.Common.{sym, ◌∙◌, ap, refl, subst, arith}
use Rattle.std.specs.Prelude.{All, IsSome, unwrap_or, slice_get, option_map, option_and_then}
use Rattle.std.specs.List.{range_with_len}
use Rattle.std.proofs.lemmas.Bool.{cases_lt, false≢true, lt-ltb, ltb-true}
use Rattle.std.proofs.lemmas.List.{length-map}
use Rattle.std.proofs.lemmas.List.FromFn.{length-range_with_len, get_or-range_with_len}
use Rattle.std.proofs.lemmas.Nat.{mul-add-lt}
use Rattle.std.proofs.lemmas.Option.{slice_get_within, slice_get_past, slice_get-get_or, slice_get-map}
use Rattle.std.proofs.Math.Nat.{mul_comm, mul-le-mul_left}
use Rattle.bdd_nodes.specs.declared.node_ref.NodeRef.{NodeRef}
use Rattle.bdd_nodes.specs.Shelf.{Contents, root_of}
use Rattle.gta_theory.specs.Guides.{IsSpace, left, right}
use Rattle.gta_core.specs.declared.part.Part.{Part}
use Rattle.gta_core.specs.Auto.{AutoView, states_of, initial_of, guide_of, place_in, root_at, automaton_of, IsAuto, IsWhole}
use Rattle.gta_merge.specs.declared.lines.Side.TheVariants.{Left, Right}
use Rattle.gta_merge.specs.declared.classes.Classes.{Classes}
use Rattle.gta_merge.specs.Lines.{root_beside, PutsRows}
use Rattle.gta_merge.specs.Classes.{AreFirsts, HaveLikeRoots, AreToldApart, AreClassed}
use Rattle.gta_merge.specs.Merged.{HasNoEqualLines}
use Rattle.gta_merge.specs.Parts.{IsPartOf, UsesAfter}
use Rattle.gta_merge.specs.Told.{AreApart}
use Rattle.gta_merge.proofs.ListsLemmas.{map-at, none-there, not-none}

range-at : (n i : ℕ) → i < n → slice_get (range_with_len 0 n) i ≡ Some i
range-at n i inside =
    let e : get_or (range_with_len 0 n) i 0 ≡ i = get_or-range_with_len 0 n i 0 inside ∙ (omega arith) in
    slice_get-get_or (range_with_len 0 n) i 0 (omega (arith, length-range_with_len 0 n))
    ∙ ap (λ (k : ℕ). let o : Option ℕ = Some k in o) e

some-within : {X : Type 0} (xs : List X) (i : ℕ) → IsSome (slice_get xs i) → i < length xs
some-within xs i some = elim (cases_lt i (length xs)) [
  | inl inside ↦ inside
  | inr past ↦ absurd (not-none (slice_get xs i) (slice_get_past xs i past) some)
]

-- a pair with a place has a row and a column
module _ (part : Part) (l r : ℕ) where
  row-first : (o : Option ℕ) → IsSome (option_and_then (λ row. option_and_then (λ column.
      option_map (λ cell. part.first + cell) (slice_get part.cells (row * part.width + column))) (slice_get part.columns r)) o) → IsSome o
  row-first None some = some
  row-first (Some row) some = refl

  rows-within : IsSome (place_in part l r) → l < length part.rows
  rows-within some = some-within part.rows l (row-first (slice_get part.rows l) some)

  column-first : (row : ℕ) (o : Option ℕ) → IsSome (option_and_then (λ column.
      option_map (λ cell. part.first + cell) (slice_get part.cells (row * part.width + column))) o) → IsSome o
  column-first row None some = some
  column-first row (Some column) some = refl

  column-second : (o : Option ℕ) → IsSome (option_and_then (λ row. option_and_then (λ column.
      option_map (λ cell. part.first + cell) (slice_get part.cells (row * part.width + column))) (slice_get part.columns r)) o) →
      IsSome (slice_get part.columns r)
  column-second None some = absurd (false≢true some)
  column-second (Some row) some = column-first row (slice_get part.columns r) some

  columns-within : IsSome (place_in part l r) → r < length part.columns
  columns-within some = some-within part.columns r (column-second (slice_get part.rows l) some)

some-chain : {X Y : Type 0} (f : X → Option Y) (o : Option X) → IsSome (option_and_then f o) → IsSome o
some-chain f None some = some
some-chain f (Some x) some = refl

-- the part of an automaton
module _ (shelf : Contents) (a : AutoView) (auto : IsAuto (guide_of a) shelf a) (whole : IsWhole a) (s : ℕ) (own : Part)
    (there : slice_get a.parts s ≡ Some own) where
  abbrev pub lefts : ℕ
  lefts = states_of a (left (guide_of a) s)

  abbrev pub rights : ℕ
  rights = states_of a (right (guide_of a) s)

  children-are : unwrap_or (slice_get (guide_of a) s) (0, 0) ≡ own.children
  children-are =
      ap (λ (o : Option (ℕ × ℕ)). unwrap_or o (0, 0)) (slice_get-map (λ (part : Part). part.children) a.parts s)
      ∙ ap (λ (o : Option Part). unwrap_or (option_map (λ (part : Part). part.children) o) (0, 0)) there

  pub lefts-are : states_of a own.children.0 ≡ lefts
  lefts-are = ap (λ (c : ℕ × ℕ). states_of a c.0) (sym children-are)

  pub rights-are : states_of a own.children.1 ≡ rights
  rights-are = ap (λ (c : ℕ × ℕ). states_of a c.1) (sym children-are)

  inside : IsSpace (guide_of a) s
  inside = let w = slice_get_within a.parts s own there in let l = length-map a.parts (λ (part : Part). part.children) in omega arith

  known : (l r : ℕ) → l < lefts → r < rights → IsSome (root_at shelf a s l r)
  known l r l_in r_in = (auto.complete s l r).1 (inside, (lt-ltb l lefts l_in, lt-ltb r rights r_in))

  left-known : (l r : ℕ) → IsSome (root_at shelf a s l r) → l < lefts
  left-known l r some = ltb-true l lefts ((auto.complete s l r).0 some).1.0

  right-known : (l r : ℕ) → IsSome (root_at shelf a s l r) → r < rights
  right-known l r some = ltb-true r rights ((auto.complete s l r).0 some).1.1

  left-past : (l r : ℕ) → lefts ≤ l → root_at shelf a s l r ≡ None
  left-past l r past = none-there (root_at shelf a s l r) (λ some. let k = left-known l r some in omega arith)

  right-past : (l r : ℕ) → rights ≤ r → root_at shelf a s l r ≡ None
  right-past l r past = none-there (root_at shelf a s l r) (λ some. let k = right-known l r some in omega arith)

  root-place : (l r : ℕ) → root_at shelf a s l r ≡ option_and_then (root_of shelf a.table) (place_in own l r)
  unfolding root_at
  root-place l r = ap (λ (o : Option Part). option_and_then (root_of shelf a.table) (option_and_then (λ part. place_in part l r) o)) there

  placed : (l r : ℕ) → l < lefts → r < rights → IsSome (place_in own l r)
  placed l r l_in r_in = some-chain (root_of shelf a.table) (place_in own l r)
      (subst (λ (o : Option NodeRef). IsSome o) (root-place l r) (known l r l_in r_in))

  some-state : (t : ℕ) → IsSpace (guide_of a) t → 0 < states_of a t
  unfolding automaton_of
  some-state t t_in = let b = ltb-true (initial_of a t) (states_of a t) (auto.closed.initial t t_in) in omega arith

  -- every state has a class
  pub many-rows : lefts ≤ length own.rows
  many-rows = elim (cases_lt (length own.rows) lefts) [
    | inl less ↦ let w = rows-within own (length own.rows) 0
        (placed (length own.rows) 0 less (some-state (right (guide_of a) s) (whole.guide.right_inside s inside))) in absurd (omega arith)
    | inr all ↦ all
  ]

  pub many-columns : rights ≤ length own.columns
  many-columns = elim (cases_lt (length own.columns) rights) [
    | inl less ↦ let w = columns-within own 0 (length own.columns)
        (placed 0 (length own.columns) (some-state (left (guide_of a) s) (whole.guide.left_inside s inside)) less) in
        absurd (omega arith)
    | inr all ↦ all
  ]

  -- states of one class have the same roots
  pub like-rows : HaveLikeRoots (root_beside shelf a s Left) own.rows
  like-rows = λ q r same x.
      root-place q x
      ∙ ap (λ (o : Option ℕ). option_and_then (root_of shelf a.table) (option_and_then (λ row. option_and_then (λ column.
      option_map (λ cell. own.first + cell) (slice_get own.cells (row * own.width + column))) (slice_get own.columns x)) o)) same
      ∙ sym (root-place r x)

  pub like-columns : HaveLikeRoots (root_beside shelf a s Right) own.columns
  like-columns = λ q r same x.
      root-place x q
      ∙ ap (λ (o : Option ℕ). option_and_then (root_of shelf a.table) (option_and_then (λ row. option_and_then (λ column.
      option_map (λ cell. own.first + cell) (slice_get own.cells (row * own.width + column))) o) (slice_get own.rows x))) same
      ∙ sym (root-place x r)

  -- the first right states of classes tell left states apart
  module _ (firsts : List ℕ) (are : AreFirsts own.columns rights firsts) where
    pub firsts-known : (q : ℕ) → q < lefts → All (λ other. IsSome (root_beside shelf a s Left q other)) firsts
    firsts-known q q_in = λ k d k_in. known q (get_or firsts k d) q_in (are.within k (get_or firsts k d) (slice_get-get_or firsts k d k_in))

    pub firsts-tell : AreToldApart (root_beside shelf a s Left) lefts firsts
    firsts-tell = λ q r q_in r_in same x. elim (cases_lt x rights) [
      | inl x_in ↦
          let first = are.each x x_in in
          sym (like-columns first.one x first.same q)
          ∙ map-at (root_beside shelf a s Left q) (root_beside shelf a s Left r) firsts same first.place first.one first.there
          ∙ like-columns first.one x first.same r
      | inr past ↦ right-past q x past ∙ sym (right-past r x past)
    ]

  -- the first states of both children
  module _ (ls rs : List ℕ) (ls_are : AreFirsts own.rows lefts ls) (rs_are : AreFirsts own.columns rights rs) where
    pub beside-left : All (λ other. All (λ state. IsSome (root_beside shelf a s Left state other)) ls) rs
    beside-left = λ k d k_in j e j_in. known (get_or ls j e) (get_or rs k d)
        (ls_are.within j (get_or ls j e) (slice_get-get_or ls j e j_in)) (rs_are.within k (get_or rs k d) (slice_get-get_or rs k d k_in))

    pub beside-right : All (λ other. All (λ state. IsSome (root_beside shelf a s Right state other)) rs) ls
    beside-right = λ k d k_in j e j_in. known (get_or ls k d) (get_or rs j e)
        (ls_are.within k (get_or ls k d) (slice_get-get_or ls k d k_in)) (rs_are.within j (get_or rs j e) (slice_get-get_or rs j e j_in))

    pub no-equal : AreApart (root_beside shelf a s Left) ls → AreApart (root_beside shelf a s Right) rs → HasNoEqualLines shelf a s
    no-equal rows_apart columns_apart = record {
      part = own;
      there = there;
      rows = λ q r q_in r_in. (
        like-rows q r,
        λ like.
            let one = ls_are.each q (let m = lefts-are in omega arith) in
            let two = ls_are.each r (let m = lefts-are in omega arith) in
            let same : one.one ≡ two.one = rows_apart one.place two.place one.one two.one one.there two.there
            (λ x. like-rows one.one q one.same x ∙ like x ∙ sym (like-rows two.one r two.same x)) in
            sym one.same ∙ ap (slice_get own.rows) same ∙ two.same,
      );
      columns = λ q r q_in r_in. (
        like-columns q r,
        λ like.
            let one = rs_are.each q (let m = rights-are in omega arith) in
            let two = rs_are.each r (let m = rights-are in omega arith) in
            let same : one.one ≡ two.one = columns_apart one.place two.place one.one two.one one.there two.there
            (λ x. like-columns one.one q one.same x ∙ like x ∙ sym (like-columns two.one r two.same x)) in
            sym one.same ∙ ap (slice_get own.columns) same ∙ two.same,
      );
    }

  module _ (rows : Classes) (rows_are : AreClassed (root_beside shelf a s Left) lefts rows) where
    pub row-inside : (class one : ℕ) → slice_get rows.ones class ≡ Some one → one < lefts
    row-inside class one at = let w = slice_get_within rows.of one class (rows_are.ones class one at) in let m = rows_are.many in omega arith

    row-of : (l : ℕ) → l < lefts → slice_get rows.of l ≡ Some (get_or rows.of l 0)
    row-of l l_in = slice_get-get_or rows.of l 0 (let m = rows_are.many in omega arith)

    row-one : (l : ℕ) → l < lefts → slice_get rows.ones (get_or rows.of l 0) ≡ Some (get_or rows.ones (get_or rows.of l 0) 0)
    row-one l l_in = slice_get-get_or rows.ones (get_or rows.of l 0) 0 (rows_are.classes.within l (get_or rows.of l 0) (row-of l l_in))

    row-like : (l : ℕ) → l < lefts → (x : ℕ) → root_at shelf a s l x ≡ root_at shelf a s (get_or rows.ones (get_or rows.of l 0) 0) x
    row-like l l_in =
        let class = get_or rows.of l 0 in
        let one = get_or rows.ones class 0 in
        (rows_are.classes.shared l one class class (row-of l l_in) (rows_are.ones class one (row-one l l_in))).0 refl

    -- the states that stand for rows tell right states apart
    pub ones-known : (q : ℕ) → q < rights → All (λ other. IsSome (root_beside shelf a s Right q other)) rows.ones
    ones-known q q_in = λ k d k_in. known (get_or rows.ones k d) q (row-inside k (get_or rows.ones k d) (slice_get-get_or rows.ones k d k_in)) q_in

    pub ones-tell : AreToldApart (root_beside shelf a s Right) rights rows.ones
    ones-tell = λ q r q_in r_in same x. elim (cases_lt x lefts) [
      | inl x_in ↦
          row-like x x_in q
          ∙ map-at (root_beside shelf a s Right q) (root_beside shelf a s Right r) rows.ones same (get_or rows.of x 0)
          (get_or rows.ones (get_or rows.of x 0) 0) (row-one x x_in)
          ∙ sym (row-like x x_in r)
      | inr past ↦ left-past x q past ∙ sym (left-past x r past)
    ]

    module _ (columns : Classes) (columns_are : AreClassed (root_beside shelf a s Right) rights columns) where
      pub column-inside : (class one : ℕ) → slice_get columns.ones class ≡ Some one → one < rights
      column-inside class one at =
          let w = slice_get_within columns.of one class (columns_are.ones class one at) in let m = columns_are.many in omega arith

      pub cells-known : All (λ l. All (λ r. IsSome (root_at shelf a s l r)) columns.ones) rows.ones
      cells-known = λ k d k_in j e j_in. known (get_or rows.ones k d) (get_or columns.ones j e)
          (row-inside k (get_or rows.ones k d) (slice_get-get_or rows.ones k d k_in))
          (column-inside j (get_or columns.ones j e) (slice_get-get_or columns.ones j e j_in))

      column-of : (r : ℕ) → r < rights → slice_get columns.of r ≡ Some (get_or columns.of r 0)
      column-of r r_in = slice_get-get_or columns.of r 0 (let m = columns_are.many in omega arith)

      column-one : (r : ℕ) → r < rights → slice_get columns.ones (get_or columns.of r 0) ≡ Some (get_or columns.ones (get_or columns.of r 0) 0)
      column-one r r_in = slice_get-get_or columns.ones (get_or columns.of r 0) 0 (columns_are.classes.within r (get_or columns.of r 0) (column-of r r_in))

      column-like : (r : ℕ) → r < rights → (x : ℕ) → root_at shelf a s x r ≡ root_at shelf a s x (get_or columns.ones (get_or columns.of r 0) 0)
      column-like r r_in =
          let class = get_or columns.of r 0 in
          let one = get_or columns.ones class 0 in
          (columns_are.classes.shared r one class class (column-of r r_in) (columns_are.ones class one (column-one r r_in))).0 refl

      module _ (old new : List NodeRef) (puts : PutsRows (root_at shelf a s) rows.ones columns.ones old new) where
        abbrev height : ℕ
        height = length rows.ones

        abbrev width : ℕ
        width = length columns.ones

        abbrev pub made : Part
        made = record {
          states = own.states;
          initial = own.initial;
          children = own.children;
          first = length old;
          rows = rows.of;
          columns = columns.of;
          width = length columns.ones;
          cells = range_with_len 0 (length rows.ones * length columns.ones);
        }

        index-inside : (c d : ℕ) → c < height → d < width → c * width + d < height * width
        index-inside c d c_in d_in = let b = mul-add-lt c width d height c_in d_in in let m = mul_comm width height in omega arith

        place-at : (l r c d : ℕ) → slice_get rows.of l ≡ Some c → slice_get columns.of r ≡ Some d → c < height → d < width →
            place_in made l r ≡ Some (length old + (c * width + d))
        place-at l r c d l_at r_at c_in d_in =
            ap (λ (o : Option ℕ). option_and_then (λ row. option_and_then (λ column. option_map (λ cell. length old + cell)
            (slice_get (range_with_len 0 (height * width)) (row * width + column))) (slice_get columns.of r)) o) l_at
            ∙ ap (λ (o : Option ℕ). option_and_then (λ column. option_map (λ cell. length old + cell)
            (slice_get (range_with_len 0 (height * width)) (c * width + column))) o) r_at
            ∙ ap (λ (o : Option ℕ). option_map (λ cell. length old + cell) o) (range-at (height * width) (c * width + d) (index-inside c d c_in d_in))

        -- a pair has a place with its root
        record Cell (l r : ℕ) : Type 0 where
          index : ℕ
          within : index < height * width
          at : place_in made l r ≡ Some (length old + index)
          root : slice_get new (length old + index) ≡ root_at shelf a s l r

        -- or it has neither
        record NoCell (l r : ℕ) : Type 0 where
          at : place_in made l r ≡ None
          root : root_at shelf a s l r ≡ None

        cell : (l r : ℕ) → l < lefts → r < rights → Cell l r
        cell l r l_in r_in =
            let c = get_or rows.of l 0 in
            let d = get_or columns.of r 0 in
            let c_in : c < height = rows_are.classes.within l c (row-of l l_in) in
            let d_in : d < width = columns_are.classes.within r d (column-of r r_in) in
            record {
              index = c * width + d;
              within = index-inside c d c_in d_in;
              at = place-at l r c d (row-of l l_in) (column-of r r_in) c_in d_in;
              root = puts.each c d (get_or rows.ones c 0) (get_or columns.ones d 0) (row-one l l_in) (column-one r r_in)
                  ∙ sym (row-like l l_in (get_or columns.ones d 0)) ∙ sym (column-like r r_in l);
            }

        place-above : (l r : ℕ) → slice_get rows.of l ≡ None → place_in made l r ≡ None
        place-above l r none = ap (λ (o : Option ℕ). option_and_then (λ row. option_and_then (λ column. option_map (λ cell. length old + cell)
            (slice_get (range_with_len 0 (height * width)) (row * width + column))) (slice_get columns.of r)) o) none

        place-beside : (l r : ℕ) → slice_get columns.of r ≡ None → place_in made l r ≡ None
        place-beside l r none =
            ap (λ (o : Option ℕ). option_and_then (λ row. option_and_then (λ column. option_map (λ cell. length old + cell)
            (slice_get (range_with_len 0 (height * width)) (row * width + column))) o) (slice_get rows.of l)) none
            ∙ pick (slice_get rows.of l)
          where
            pick : (o : Option ℕ) → option_and_then (λ row. let n : Option ℕ = None in n) o ≡ None
            pick None = refl
            pick (Some row) = refl

        cases-cell : (l r : ℕ) → Cell l r ⊎ NoCell l r
        cases-cell l r = elim (cases_lt l lefts) [
          | inr past ↦ inr (record {
            at = place-above l r (slice_get_past rows.of l (let m = rows_are.many in omega arith));
            root = left-past l r past;
          })
          | inl l_in ↦ elim (cases_lt r rights) [
            | inl r_in ↦ inl (cell l r l_in r_in)
            | inr past ↦ inr (record {
              at = place-beside l r (slice_get_past columns.of r (let m = columns_are.many in omega arith));
              root = right-past l r past;
            })
          ]
        ]

        same-root : (l r : ℕ) → option_and_then (λ place. slice_get new place) (place_in made l r) ≡ root_at shelf a s l r
        same-root l r = elim (cases-cell l r) [
          | inl is ↦ ap (λ (o : Option ℕ). option_and_then (λ place. slice_get new place) o) is.at ∙ is.root
          | inr is ↦ ap (λ (o : Option ℕ). option_and_then (λ place. slice_get new place) o) is.at ∙ sym is.root
        ]

        place-inside : (l r place : ℕ) → place_in made l r ≡ Some place → place < length new
        place-inside l r place at = elim (cases-cell l r) [
          | inl is ↦
              let e : Some (length old + is.index) ≡ Some place = sym is.at ∙ at in
              let same : length old + is.index ≡ place = cc in
              let w = is.within in
              let m = puts.many in
              omega arith
          | inr is ↦ absurd (let e : None ≡ Some place = sym is.at ∙ at in cc)
        ]

        IsPartOf-made : IsPartOf shelf a new s made
        IsPartOf-made = record {
          own = own;
          there = there;
          states = refl;
          initial = refl;
          children = refl;
          within = place-inside;
          same = same-root;
          merged = record {
            height = length rows.ones;
            rows = rows_are.classes;
            columns = columns_are.classes;
            cells = length-range_with_len 0 (length rows.ones * length columns.ones);
          };
        }

        some-width : (k : ℕ) → k < height * width → 0 < width
        some-width k k_in = elim (cases_lt 0 width) [
          | inl some ↦ some
          | inr none ↦ absurd (let m = mul-le-mul_left {m = width} {n = 0} height none in omega arith)
        ]

        quotient-inside : (k : ℕ) → k < height * width → k / width < height
        quotient-inside k k_in = elim (cases_lt (k / width) height) [
          | inl less ↦ less
          | inr past ↦
              let wide = some-width k k_in in
              let split : width * (k / width) + k % width ≡ k = omega arith in
              let m = mul-le-mul_left {m = height} {n = k / width} width past in
              let c = mul_comm height width in
              absurd (omega arith)
        ]

        UsesAfter-made : UsesAfter old new made
        UsesAfter-made more more_in =
            let m = puts.many in
            let k_in : more < height * width = omega arith in
            let wide = some-width more k_in in
            let c = more / width in
            let d = more % width in
            let c_in : c < height = quotient-inside more k_in in
            let d_in : d < width = omega arith in
            let split : width * (more / width) + more % width ≡ more = omega arith in
            let whole_is : c * width + d ≡ more = ap (λ (k : ℕ). k + more % width) (mul_comm (more / width) width) ∙ split in
            let l_at = slice_get-get_or rows.ones c 0 c_in in
            let r_at = slice_get-get_or columns.ones d 0 d_in in
            record {
              left = get_or rows.ones c 0;
              right = get_or columns.ones d 0;
              there = place-at (get_or rows.ones c 0) (get_or columns.ones d 0) c d (rows_are.ones c (get_or rows.ones c 0) l_at)
                  (columns_are.ones d (get_or columns.ones d 0) r_at) c_in d_in
                  ∙ ap (λ (k : ℕ). let o : Option ℕ = Some (length old + k) in o) whole_is;
            }

        abbrev pub part-with : ℕ → ℕ → List ℕ → Part
        part-with first wide cells = record {
          states = own.states;
          initial = own.initial;
          children = own.children;
          first = first;
          rows = rows.of;
          columns = columns.of;
          width = wide;
          cells = cells;
        }

        -- a part whose fields are those
        part-is : (first wide : ℕ) (cells : List ℕ) → first ≡ length old → wide ≡ length columns.ones →
            cells ≡ range_with_len 0 (length new - length old) → part-with first wide cells ≡ made
        part-is first wide cells first_is wide_is cells_are =
            let many : length new - length old ≡ length rows.ones * length columns.ones = (let m = puts.many in omega arith) in
            ap (λ (n : ℕ). part-with n wide cells) first_is
            ∙ ap (λ (n : ℕ). part-with (length old) n cells) wide_is
            ∙ ap (λ (ns : List ℕ). part-with (length old) (length columns.ones) ns) (cells_are ∙ ap (range_with_len 0) many)

        pub IsPartOf-is : (first wide : ℕ) (cells : List ℕ) → first ≡ length old → wide ≡ length columns.ones →
            cells ≡ range_with_len 0 (length new - length old) → IsPartOf shelf a new s (part-with first wide cells)
        IsPartOf-is first wide cells first_is wide_is cells_are =
            subst (IsPartOf shelf a new s) (sym (part-is first wide cells first_is wide_is cells_are)) IsPartOf-made

        pub UsesAfter-is : (first wide : ℕ) (cells : List ℕ) → first ≡ length old → wide ≡ length columns.ones →
            cells ≡ range_with_len 0 (length new - length old) → UsesAfter old new (part-with first wide cells)
        UsesAfter-is first wide cells first_is wide_is cells_are =
            subst (UsesAfter old new) (sym (part-is first wide cells first_is wide_is cells_are)) UsesAfter-made
