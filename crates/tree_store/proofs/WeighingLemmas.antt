-- The weight of a store's assignment on the tracks of the variants.
use Rattle.std.proofs.Common.{◌≡◌, ◌⊎◌, ℕ, zero, suc, ◌+◌, ◌<◌, ◌≤◌, Bool, IsTrue, true, false, cond, inl, inr, List, [], ◌∷◌, ◌++◌, length, map, slice_get}
use Rattle.std.proofs.Common.{Option, Some, None, Contains, take, option_map, refl, sym, ap, ◌∙◌, subst, arith, length-append}
use Rattle.std.specs.Prelude.{is_some}
use Rattle.std.specs.FinMap.{keys}
use Rattle.std.proofs.lemmas.Bool.{cases_lt, lt-ltb}
use Rattle.std.proofs.lemmas.List.{length-map}
use Rattle.std.proofs.lemmas.Option.{slice_get_within, slice_get-get_or, get_or_from_slice_get, slice_get-map}
use Rattle.labels.specs.Labels.{Label}
use Rattle.gta_theory.specs.Assignments.{Position, Assignment, Covers, half, root_label}
use Rattle.gta_theory.specs.Weights.{label_weight, weight}
use Rattle.gta_theory.proofs.ListedLemmas.{slice_get-front}
use Rattle.gta_theory.proofs.ListsLemmas.{place-once}
use Rattle.gta_theory.proofs.CountingLemmas.{matched-le}
use Rattle.ws2s_core.specs.declared.track.Track.{Track}
use Rattle.store_core.specs.declared.ids.CellId.{CellId}
use Rattle.store_core.specs.Tables.{TypeEntry, VarEntry, variant_count}
use Rattle.store_core.specs.Stores.{StoreMap, CellEntry, IsLive, cell_of, CellFits, Fits}
use Rattle.store_core.proofs.FittingLemmas.{IfSome-at, IsSomeAnd-at}
use Rattle.routing_walks.specs.WellFormed.{IsBackbone}
use Rattle.routing_walks.proofs.KeyLemmas.{keys-rise, key_of_live, live_of_key}
use Rattle.tree_encode.specs.Counting.{variants_in}
use Rattle.tree_encode.specs.Tracks.{of_variant, track_at, variant_track}
use Rattle.tree_encode.specs.Positions.{IsPlaced}
use Rattle.tree_encode.proofs.ApartLemmas.{one-position, placed-apart}
use Rattle.tree_store.specs.Encoding.{IsAssignmentOf}
use Rattle.tree_store.specs.Weighing.{AreVariantTracks}
use Rattle.tree_store.proofs.SpotsLemmas.{map-some, present, of-some}

-- ---- lists without repeats, by places

record IsOnce {X : Type 0} (xs : List X) : Type 0 where
  once : (i j : ℕ) (x : X) → slice_get xs i ≡ Some x → slice_get xs j ≡ Some x → i ≡ j

-- an element of two lists is at a place of one of them
either : {X : Type 0} (xs ys : List X) (i : ℕ) (x : X) → slice_get (xs ++ ys) i ≡ Some x →
    (slice_get xs i ≡ Some x) ⊎ ((k : ℕ) × (i ≡ length xs + k) × (slice_get ys k ≡ Some x))
either [] ys i x at = inr (i, omega arith, at)
either (y ∷ xs) ys zero x at = inl at
either (y ∷ xs) ys (suc i) x at =
    elim (either xs ys i x at) as (λ _. (slice_get xs i ≡ Some x) ⊎ ((k : ℕ) × (suc i ≡ length (y ∷ xs) + k) × (slice_get ys k ≡ Some x))) [
      | inl first ↦ inl first
      | inr (k, place, there) ↦ inr (k, omega (arith, place), there)
    ]

in_second : {X : Type 0} (xs ys : List X) (k : ℕ) (x : X) → slice_get ys k ≡ Some x → slice_get (xs ++ ys) (length xs + k) ≡ Some x
in_second [] ys k x at = (let e : 0 + k ≡ k = omega arith in ap (λ j. slice_get ys j) e ∙ at)
in_second (y ∷ xs) ys k x at =
    let e : suc (length xs) + k ≡ suc (length xs + k) = omega arith in
    ap (λ j. slice_get (y ∷ (xs ++ ys)) j) e ∙ in_second xs ys k x at

in_first : {X : Type 0} (xs ys : List X) (k : ℕ) (x : X) → slice_get xs k ≡ Some x → slice_get (xs ++ ys) k ≡ Some x
in_first xs ys k x at = slice_get-front xs ys k (slice_get_within xs k x at) ∙ at

IsOnce-append : {X : Type 0} (xs ys : List X) → IsOnce xs → IsOnce ys →
    ((i j : ℕ) (x : X) → slice_get xs i ≡ Some x → slice_get ys j ≡ Some x → ⊥) → IsOnce (xs ++ ys)
IsOnce-append xs ys first second apart = record {
  once = λ i j x at_i at_j. elim (either xs ys i x at_i) as (λ _. i ≡ j) [
    | inl one ↦ elim (either xs ys j x at_j) as (λ _. i ≡ j) [
      | inl other ↦ first.once i j x one other
      | inr (k, place, there) ↦ absurd (apart i k x one there)
    ]
    | inr (k, place, there) ↦ elim (either xs ys j x at_j) as (λ _. i ≡ j) [
      | inl other ↦ absurd (apart j k x other there)
      | inr (m, spot, found) ↦ (let same : k ≡ m = second.once k m x there found in omega (arith, place, spot, same))
    ]
  ];
}

-- ---- the pairs that are weighed

abbrev under : Bool → ℕ × Position → ℕ × Position
under letter pair = (pair.0, letter ∷ pair.1)

abbrev here : List ℕ → Label → List (ℕ × Position)
here [] label = []
here (t ∷ tracks) label = cond (label t) ((t, []) ∷ here tracks label) (here tracks label)

abbrev marks : List ℕ → ℕ → Assignment → List (ℕ × Position)
marks tracks zero a = []
marks tracks (suc n) a =
    here tracks (root_label a) ++ (map (under false) (marks tracks n (half false a)) ++ map (under true) (marks tracks n (half true a)))

length-here : (tracks : List ℕ) (label : Label) → length (here tracks label) ≡ label_weight tracks label
length-here [] label = refl
length-here (t ∷ tracks) label = pick (label t) (length-here tracks label)
  where
    pick : (b : Bool) → length (here tracks label) ≡ label_weight tracks label →
        length (cond b ((t, []) ∷ here tracks label) (here tracks label)) ≡ cond b 1 0 + label_weight tracks label
    pick true rest = omega (arith, rest)
    pick false rest = omega (arith, rest)

length-marks : (tracks : List ℕ) (n : ℕ) (a : Assignment) → length (marks tracks n a) ≡ weight tracks n a
length-marks tracks zero a = refl
length-marks tracks (suc n) a =
    let l = marks tracks n (half false a) in
    let r = marks tracks n (half true a) in
    omega (
      arith,
      length-append (here tracks (root_label a)) (map (under false) l ++ map (under true) r),
      length-append (map (under false) l) (map (under true) r),
      length-map l (under false),
      length-map r (under true),
      length-here tracks (root_label a),
      length-marks tracks n (half false a),
      length-marks tracks n (half true a),
    )

-- what is weighed at the root
here-is : (tracks : List ℕ) (label : Label) (i : ℕ) (x : ℕ × Position) → slice_get (here tracks label) i ≡ Some x →
    (k : ℕ) × (slice_get tracks k ≡ Some x.0) × (label x.0 ≡ true) × (x.1 ≡ [])
here-is [] label i x at = absurd (let none : None ≡ Some x = at in cc)
here-is (t ∷ tracks) label i x at = pick (label t) refl i at (λ j there. here-is tracks label j x there)
  where
    one : (p q : ℕ × Position) → Some p ≡ Some q → p ≡ q
    one p q e = cc

    pick : (b : Bool) → label t ≡ b → (i : ℕ) → slice_get (cond b ((t, []) ∷ here tracks label) (here tracks label)) i ≡ Some x →
        ((j : ℕ) → slice_get (here tracks label) j ≡ Some x → (k : ℕ) × (slice_get tracks k ≡ Some x.0) × (label x.0 ≡ true) × (x.1 ≡ [])) →
        (k : ℕ) × (slice_get (t ∷ tracks) k ≡ Some x.0) × (label x.0 ≡ true) × (x.1 ≡ [])
    pick true is zero at rest =
        let same = one (t, []) x at in
        let first : t ≡ x.0 = ap (λ (p : ℕ × Position). p.0) same in
        (0, ap (λ u. Some u) first, ap (λ u. label u) (sym first) ∙ is, sym (ap (λ (p : ℕ × Position). p.1) same))
    pick true is (suc i) at rest = let (k, there, on, root) = rest i at in (suc k, there, on, root)
    pick false is i at rest = let (k, there, on, root) = rest i at in (suc k, there, on, root)

is-here : (tracks : List ℕ) (label : Label) (k t : ℕ) → slice_get tracks k ≡ Some t → label t ≡ true →
    (i : ℕ) × (slice_get (here tracks label) i ≡ Some (t, []))
is-here [] label k t at on = absurd (let none : None ≡ Some t = at in cc)
is-here (u ∷ tracks) label zero t at on =
    let same : u ≡ t = cc in
    (0, ap (λ b. slice_get (cond b ((u, []) ∷ here tracks label) (here tracks label)) 0) (ap (λ v. label v) same ∙ on) ∙ ap (λ v. Some (v, [])) same)
is-here (u ∷ tracks) label (suc k) t at on = pick (label u) (is-here tracks label k t at on)
  where
    pick : (b : Bool) → ((i : ℕ) × (slice_get (here tracks label) i ≡ Some (t, []))) →
        (i : ℕ) × (slice_get (cond b ((u, []) ∷ here tracks label) (here tracks label)) i ≡ Some (t, []))
    pick true rest = (suc rest.0, rest.1)
    pick false rest = rest

here-once : (tracks : List ℕ) (label : Label) → IsOnce tracks → IsOnce (here tracks label)
here-once [] label once = record { once = λ i j x at_i at_j. absurd (let none : None ≡ Some x = at_i in cc) }
here-once (t ∷ tracks) label once =
    pick (label t)
    (here-once tracks label (record { once = λ i j x at_i at_j. (let e : suc i ≡ suc j = once.once (suc i) (suc j) x at_i at_j in omega (arith, e)) }))
  where
    later : (i : ℕ) → slice_get (here tracks label) i ≡ Some (t, []) → ⊥
    later i at =
        let (k, there, on, root) = here-is tracks label i (t, []) at in
        let e : 0 ≡ suc k = once.once 0 (suc k) t refl there in omega (arith, e)

    at : IsOnce (here tracks label) → (i j : ℕ) (x : ℕ × Position) → slice_get ((t, []) ∷ here tracks label) i ≡ Some x →
        slice_get ((t, []) ∷ here tracks label) j ≡ Some x → i ≡ j
    at rest zero zero x at_i at_j = refl
    at rest zero (suc j) x at_i at_j = absurd (later j (at_j ∙ sym at_i))
    at rest (suc i) zero x at_i at_j = absurd (later i (at_i ∙ sym at_j))
    at rest (suc i) (suc j) x at_i at_j = ap (λ n. suc n) (rest.once i j x at_i at_j)

    pick : (b : Bool) → IsOnce (here tracks label) → IsOnce (cond b ((t, []) ∷ here tracks label) (here tracks label))
    pick false rest = rest
    pick true rest = record { once = at rest }

under-is : (letter : Bool) (xs : List (ℕ × Position)) (i : ℕ) (x : ℕ × Position) → slice_get (map (under letter) xs) i ≡ Some x →
    (y : ℕ × Position) × (slice_get xs i ≡ Some y) × (under letter y ≡ x)
under-is letter xs i x at = map-some (under letter) (slice_get xs i) x (sym (slice_get-map (under letter) xs i) ∙ at)

under-once : (letter : Bool) (xs : List (ℕ × Position)) → IsOnce xs → IsOnce (map (under letter) xs)
under-once letter xs once = record {
  once = λ i j x at_i at_j.
      let (y, there, same) = under-is letter xs i x at_i in
      let (z, found, also) = under-is letter xs j x at_j in
      let e : y ≡ z = inner y z (same ∙ sym also) in
      once.once i j z (there ∙ ap (λ p. Some p) e) found;
}
  where
    tail : Position → Position
    tail [] = []
    tail (b ∷ p) = p

    inner : (y z : ℕ × Position) → under letter y ≡ under letter z → y ≡ z
    inner y z e = pair_of y z (ap (λ (p : ℕ × Position). p.0) e) (tail_same (ap (λ (p : ℕ × Position). p.1) e))
      where
        tail_same : (letter ∷ y.1) ≡ (letter ∷ z.1) → y.1 ≡ z.1
        tail_same h = cc

        pair_of : (a b : ℕ × Position) → a.0 ≡ b.0 → a.1 ≡ b.1 → a ≡ b
        pair_of a b h k = λ i. (h i, k i)

marks-once : (tracks : List ℕ) (n : ℕ) (a : Assignment) → IsOnce tracks → IsOnce (marks tracks n a)
marks-once tracks zero a once = record { once = λ i j x at_i at_j. absurd (let none : None ≡ Some x = at_i in cc) }
marks-once tracks (suc n) a once =
    let l = marks tracks n (half false a) in
    let r = marks tracks n (half true a) in
    IsOnce-append (here tracks (root_label a)) (map (under false) l ++ map (under true) r)
    (here-once tracks (root_label a) once)
    (IsOnce-append (map (under false) l) (map (under true) r) (under-once false l (marks-once tracks n (half false a) once))
    (under-once true r (marks-once tracks n (half true a) once))
    (λ i j x at_i at_j.
    let (y, there, same) = under-is false l i x at_i in
    let (z, found, also) = under-is true r j x at_j in
    letters y.1 z.1 (ap (λ (p : ℕ × Position). p.1) (same ∙ sym also))))
    (λ i j x at_i at_j.
    let (k, there, on, root) = here-is tracks (root_label a) i x at_i in
    elim (either (map (under false) l) (map (under true) r) j x at_j) as (λ _. ⊥) [
      | inl left ↦ (let (y, found, also) = under-is false l j x left in longer false y.1 (ap (λ (p : ℕ × Position). p.1) also ∙ root))
      | inr (m, place, right) ↦ (let (y, found, also) = under-is true r m x right in longer true y.1 (ap (λ (p : ℕ × Position). p.1) also ∙ root))
    ])
  where
    letters : (p q : Position) → (false ∷ p) ≡ (true ∷ q) → ⊥
    letters p q e = cc

    longer : (b : Bool) (p : Position) → (b ∷ p) ≡ [] → ⊥
    longer b p e = cc

marks-are : (tracks : List ℕ) (n : ℕ) (a : Assignment) (i : ℕ) (x : ℕ × Position) → slice_get (marks tracks n a) i ≡ Some x →
    (k : ℕ) × (slice_get tracks k ≡ Some x.0) × IsTrue (a x.0 x.1)
marks-are tracks zero a i x at = absurd (let none : None ≡ Some x = at in cc)
marks-are tracks (suc n) a i x at =
    let l = marks tracks n (half false a) in
    let r = marks tracks n (half true a) in
    elim (either (here tracks (root_label a)) (map (under false) l ++ map (under true) r) i x at)
    as (λ _. (k : ℕ) × (slice_get tracks k ≡ Some x.0) × IsTrue (a x.0 x.1)) [
      | inl root ↦ (let (k, there, on, empty) = here-is tracks (root_label a) i x root in (k, there, ap (λ p. a x.0 p) empty ∙ on))
      | inr (m, place, below) ↦
          elim (either (map (under false) l) (map (under true) r) m x below) as (λ _. (k : ℕ) × (slice_get tracks k ≡ Some x.0) × IsTrue (a x.0 x.1)) [
            | inl left ↦ (let (y, found, same) = under-is false l m x left in
                let (k, there, on) = marks-are tracks n (half false a) m y found in
                subst (λ (z : ℕ × Position). (k : ℕ) × (slice_get tracks k ≡ Some z.0) × IsTrue (a z.0 z.1)) same (k, there, on))
            | inr (j, spot, right) ↦ (let (y, found, same) = under-is true r j x right in
                let (k, there, on) = marks-are tracks n (half true a) j y found in
                subst (λ (z : ℕ × Position). (k : ℕ) × (slice_get tracks k ≡ Some z.0) × IsTrue (a z.0 z.1)) same (k, there, on))
          ]
    ]

are-marks : (tracks : List ℕ) (n : ℕ) (a : Assignment) (k t : ℕ) (p : Position) → slice_get tracks k ≡ Some t → IsTrue (a t p) → length p < n →
    (i : ℕ) × (slice_get (marks tracks n a) i ≡ Some (t, p))
are-marks tracks zero a k t p at on short = absurd (omega (arith, short))
are-marks tracks (suc n) a k t [] at on short =
    let (i, there) = is-here tracks (root_label a) k t at on in (
      i,
      in_first (here tracks (root_label a)) (map (under false) (marks tracks n (half false a)) ++ map (under true) (marks tracks n (half true a)))
          i (t, []) there,
    )
are-marks tracks (suc n) a k t (false ∷ p) at on short =
    let l = marks tracks n (half false a) in
    let r = marks tracks n (half true a) in
    let (i, there) = are-marks tracks n (half false a) k t p at on (omega (arith, short)) in (
      length (here tracks (root_label a)) + i,
      in_second (here tracks (root_label a)) (map (under false) l ++ map (under true) r) i (t, false ∷ p)
          (in_first (map (under false) l) (map (under true) r) i (t, false ∷ p) (slice_get-map (under false) l i ∙ ap (λ o. option_map (under false)
          o) there)),
    )
are-marks tracks (suc n) a k t (true ∷ p) at on short =
    let l = marks tracks n (half false a) in
    let r = marks tracks n (half true a) in
    let (i, there) = are-marks tracks n (half true a) k t p at on (omega (arith, short)) in (
      length (here tracks (root_label a)) + (length (map (under false) l) + i),
      in_second (here tracks (root_label a)) (map (under false) l ++ map (under true) r) (length (map (under false) l) + i) (t, true ∷ p)
          (in_second (map (under false) l) (map (under true) r) i (t, true ∷ p) (slice_get-map (under true) r i ∙ ap (λ o. option_map (under true) o) there)),
    )

-- ---- cells and pairs

module _ (types : List TypeEntry) (vars : List VarEntry) (s : StoreMap) (a : Assignment) (tracks : List ℕ) (n : ℕ) (fits : Fits types vars s)
    (backbone : IsBackbone types vars s) (is : IsAssignmentOf types vars s a) (are : AreVariantTracks types tracks) (covers : Covers n a) where
  -- the pair is that of the cell: its track and its position
  record IsMark (x : ℕ × Position) (c : CellId) : Type 0 where
    cell : CellEntry
    at : cell_of s c ≡ Some cell
    track : variant_track types cell.variant ≡ Some (track_at x.0)
    placed : IsPlaced types vars s c x.1

  tracks-once : IsOnce tracks
  tracks-once = record {
    once = λ i j t at_i at_j. place-once tracks are.once i j t (slice_get_within tracks i t at_i) (slice_get_within tracks j t at_j)
        (get_or_from_slice_get tracks i t t at_i ∙ sym (get_or_from_slice_get tracks j t t at_j));
  }

  cell-one : (x y : CellEntry) → Some x ≡ Some y → x ≡ y
  cell-one x y e = cc

  number-one : (t u : ℕ) → Some (track_at t) ≡ Some (track_at u) → t ≡ u
  number-one t u e = ap (λ (x : Track). x.0) (track-one (track_at t) (track_at u) e)
    where
      track-one : (x y : Track) → Some x ≡ Some y → x ≡ y
      track-one x y h = cc

  same_cell : (c d : CellId) → c.0 ≡ d.0 → c ≡ d
  same_cell c d e = λ i. record { 0 = e i }

  -- each pair is that of a cell
  cell-of-mark : (i : ℕ) (x : ℕ × Position) → slice_get (marks tracks n a) i ≡ Some x → (c : CellId) × IsLive s c × IsMark x c
  cell-of-mark i x at =
      let (k, there, on) = marks-are tracks n a i x at in
      let listed : Contains tracks x.0 = (k, slice_get_within tracks k x.0 there, get_or_from_slice_get tracks k x.0 x.0 there) in
      let (v, track) = (are.exactly x.0).0 listed in
      elim ((is.tracks (of_variant v) (track_at x.0) x.1 track).0 on) as (λ _. (c : CellId) × IsLive s c × IsMark x c) [
        | inl root ↦ absurd root.1
        | inr (c, placed, of_v) ↦
            (let (cell, here_at, same) = IsSomeAnd-at (cell_of s c) (λ e. e.variant ≡ v) of_v in
            (c, ap (λ o. is_some o) here_at, record { cell = cell; at = here_at; track = ap (λ w. variant_track types w) same ∙ track; placed = placed }))
      ]

  -- each live cell has a pair
  mark-of-cell : (c : CellId) → IsLive s c → (i : ℕ) × (x : ℕ × Position) × (slice_get (marks tracks n a) i ≡ Some x) × IsMark x c
  mark-of-cell c live = pick (cell_of s c) refl live
    where
      pick : (o : Option CellEntry) → cell_of s c ≡ o → is_some o ≡ true →
          (i : ℕ) × (x : ℕ × Position) × (slice_get (marks tracks n a) i ≡ Some x) × IsMark x c
      pick None at e = absurd (let no : false ≡ true = e in cc)
      pick (Some cell) at e =
          let cell_fits : CellFits types s cell = IfSome-at (cell_of s c) (CellFits types s) cell at (fits.cells c) in
          let t : ℕ = variants_in (take cell.variant.ty.0 types) + cell.variant.index in
          let track : variant_track types cell.variant ≡ Some (track_at t) =
          ap (λ b. cond b (Some (track_at t)) None) (lt-ltb cell.variant.index (variant_count types cell.variant.ty) cell_fits.variant) in
          let one = one-position types vars s c backbone live in
          let p = one.position in
          let on : IsTrue (a t p) =
          (is.tracks (of_variant cell.variant) (track_at t) p track).1
          (inr (c, one.placed, of-some (λ e. e.variant ≡ cell.variant) (cell_of s c) cell at refl)) in
          let (k, inside, found) = (are.exactly t).1 (cell.variant, track) in
          let (i, there) = are-marks tracks n a k t p (slice_get-get_or tracks k t inside ∙ ap (λ u. Some u) found) on (short t p on) in
          (i, (t, p), there, record { cell = cell; at = at; track = track; placed = one.placed })
        where
          short : (t : ℕ) (p : Position) → IsTrue (a t p) → length p < n
          short t p on = elim (cases_lt (length p) n) as (λ _. length p < n) [
            | inl less ↦ less
            | inr long ↦ absurd (let no : false ≡ true = sym (covers t p long) ∙ on in cc)
          ]

  -- the pair of a cell is one
  mark-one : (x y : ℕ × Position) (c : CellId) → IsMark x c → IsMark y c → x ≡ y
  mark-one x y c one other =
      let cells : one.cell ≡ other.cell = cell-one one.cell other.cell (sym one.at ∙ other.at) in
      let numbers : x.0 ≡ y.0 =
      number-one x.0 y.0 (sym one.track ∙ ap (λ (e : CellEntry). variant_track types e.variant) cells ∙ other.track) in
      let live : IsLive s c = ap (λ o. is_some o) one.at in
      let only = one-position types vars s c backbone live in
      let places : x.1 ≡ y.1 = only.only x.1 one.placed ∙ sym (only.only y.1 other.placed) in
      λ i. (numbers i, places i)

  -- the pair at the one place and the cell at the other are one's and the other's
  abbrev Pairs : ℕ → ℕ → Type 0
  Pairs i j = (x : ℕ × Position) × (c : CellId) × (slice_get (marks tracks n a) i ≡ Some x) × (slice_get (keys s.cells) j ≡ Some c.0) × IsMark x c

  pair-one : (x y : ℕ × Position) → Some x ≡ Some y → x ≡ y
  pair-one x y e = cc

  key-one : (c d : ℕ) → Some c ≡ Some d → c ≡ d
  key-one c d e = cc

  no-more : weight tracks n a ≤ length (keys s.cells)
  no-more =
      let matched = matched-le (length (keys s.cells)) (length (marks tracks n a)) Pairs (record { partner = partner; once = once }) in
      omega (arith, length-marks tracks n a, matched)
    where
      partner : (i : ℕ) → i < length (marks tracks n a) → (j : ℕ) × (j < length (keys s.cells)) × Pairs i j
      partner i inside =
          let (x, at) = present (marks tracks n a) i inside in
          let (c, live, mark) = cell-of-mark i x at in
          let (j, key) = key_of_live s c live in
          (j, slice_get_within (keys s.cells) j c.0 key, (x, c, at, key, mark))

      once : (i k j : ℕ) → Pairs i j → Pairs k j → i ≡ k
      once i k j (x, c, at, key, mark) (y, d, found, also, other) =
          let same : c ≡ d = same_cell c d (key-one c.0 d.0 (sym key ∙ also)) in
          let e : x ≡ y = mark-one x y d (subst (λ b. IsMark x b) same mark) other in
          (marks-once tracks n a tracks-once).once i k y (at ∙ ap (λ p. Some p) e) found

  no-fewer : length (keys s.cells) ≤ weight tracks n a
  no-fewer =
      let matched = matched-le (length (marks tracks n a)) (length (keys s.cells)) (λ j i. Pairs i j) (record { partner = partner; once = once }) in
      omega (arith, length-marks tracks n a, matched)
    where
      partner : (j : ℕ) → j < length (keys s.cells) → (i : ℕ) × (i < length (marks tracks n a)) × Pairs i j
      partner j inside =
          let (key, at) = present (keys s.cells) j inside in
          let c : CellId = record { 0 = key } in
          let (i, x, there, mark) = mark-of-cell c (live_of_key s c j at) in
          (i, slice_get_within (marks tracks n a) i x there, (x, c, there, at, mark))

      once : (j k i : ℕ) → Pairs i j → Pairs i k → j ≡ k
      once j k i (x, c, at, key, mark) (y, d, found, also, other) =
          let e : x ≡ y = pair-one x y (sym at ∙ found) in
          let same : c ≡ d = placed-apart types vars s c d y.1 (subst (λ (p : ℕ × Position). IsPlaced types vars s c p.1) e mark.placed) other.placed in
          let keys_same : c.0 ≡ d.0 = ap (λ (b : CellId). b.0) same in
          elim (cases_lt j k) as (λ _. j ≡ k) [
            | inl less ↦ absurd (let below : c.0 < d.0 = keys-rise s j k c.0 d.0 less key also in omega (arith, below, keys_same))
            | inr le ↦ elim (cases_lt k j) as (λ _. j ≡ k) [
              | inl more ↦ absurd (let below : d.0 < c.0 = keys-rise s k j d.0 c.0 more also key in omega (arith, below, keys_same))
              | inr ge ↦ omega (arith, le, ge)
            ]
          ]

  pub weight-cells : weight tracks n a ≡ length (keys s.cells)
  weight-cells = omega (arith, no-more, no-fewer)
