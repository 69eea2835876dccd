-- On pairs of child states: the Size of an automaton counts each of them.
use Rattle.std.proofs.Common.{◌≡◌, ℕ, zero, suc, ◌+◌, ◌*◌, ◌/◌, ◌%◌, ◌<◌, ◌≤◌, List, length, Option, Some, slice_get, unwrap_or, map, sym, ◌∙◌, ap, arith}
use Rattle.std.specs.Prelude.{option_map}
use Rattle.std.proofs.Math.Nat.{mod-lt, div-lt_iff_lt-mul, div-add-mod}
use Rattle.std.proofs.lemmas.Bool.{lt-ltb}
use Rattle.std.proofs.lemmas.List.{length-map}
use Rattle.std.proofs.lemmas.Option.{slice_get-get_or, slice_get-map}
use Rattle.bdd_nodes.specs.Shelf.{Contents}
use Rattle.gta_theory.specs.Guides.{Spaces, IsSpace, left, right}
use Rattle.gta_theory.specs.Automata.{Automaton}
use Rattle.gta_theory.specs.Numbered.{Below}
use Rattle.gta_theory.specs.Sizes.{SizeIn, SizeOf, sum_below}
use Rattle.gta_theory.proofs.CountingLemmas.{matched-le}
use Rattle.gta_core.specs.declared.part.Part.{Part}
use Rattle.gta_core.specs.Auto.{AutoView, states_of, guide_of, automaton_of}
use Rattle.gta_core.specs.Sizes.{IsSized}

some-pair : (p q : ℕ × ℕ) → ◌≡◌ {A = Option (ℕ × ℕ)} (Some p) (Some q) → p ≡ q
some-pair p q e = cc

-- the number of a pair of numbers, the second below w, stands at its place
module _ (pairs : List (ℕ × ℕ)) (w : ℕ) where
  abbrev IsAt : ℕ → ℕ → Type 0
  IsAt i j = slice_get pairs j ≡ Some (i / w, i % w)

  IsAt-once : (i k j : ℕ) → IsAt i j → IsAt k j → i ≡ k
  IsAt-once i k j at_i at_k =
      let same = some-pair (i / w, i % w) (k / w, k % w) (sym at_i ∙ at_k) in
      let row : i / w ≡ k / w = ap (λ (p : ℕ × ℕ). p.0) same in
      let column : i % w ≡ k % w = ap (λ (p : ℕ × ℕ). p.1) same in
      sym (div-add-mod i w) ∙ (λ n. w * row n + column n) ∙ div-add-mod k w

-- the pairs of child states in the first n spaces, by how many states each space has
abbrev pub pairs_below : Spaces → (ℕ → ℕ) → ℕ → ℕ
pairs_below g count = sum_below (λ s. count (left g s) * count (right g s))

-- in a space there are no more pairs than its size
module _ (g : Spaces) (A : Automaton ℕ) (count : ℕ → ℕ) where
  pairs-in : (s n : ℕ) → SizeIn g A (Below count) s n → count (left g s) * count (right g s) ≤ n
  pairs-in s n size =
      let w = count (right g s) in
      let fits = matched-le (length size.pairs) (count (left g s) * w) (IsAt size.pairs w) (record { partner = partner; once = IsAt-once size.pairs w }) in
      omega (arith, fits, size.is_sum)
    where
      some-column : (i m w : ℕ) → i < m * w → 0 < w
      some-column i m zero below = absurd (omega (arith, below))
      some-column i m (suc w) below = omega arith

      partner : (i : ℕ) → i < count (left g s) * count (right g s) →
          (j : ℕ) × (j < length size.pairs) × IsAt size.pairs (count (right g s)) i j
      partner i below =
          let w = count (right g s) in
          let some = some-column i (count (left g s)) w below in
          let row : i / w < count (left g s) = (div-lt_iff_lt-mul some).1 below in
          let column : i % w < w = mod-lt i some in
          let there = (size.all_pairs).every (i / w, i % w) (lt-ltb (i / w) (count (left g s)) row, lt-ltb (i % w) w column) in (
            there.0,
            there.1,
            slice_get-get_or size.pairs there.0 (i / w, i % w) there.1 ∙ ap (λ (p : ℕ × ℕ). let o : Option (ℕ × ℕ) = Some p in o) there.2,
          )

  pairs-below-le : (sizes : ℕ → ℕ) (m : ℕ) → m ≤ length g → ((s : ℕ) → IsSpace g s → SizeIn g A (Below count) s (sizes s)) →
      pairs_below g count m ≤ sum_below sizes m
  pairs-below-le sizes zero within each = omega arith
  pairs-below-le sizes (suc m) within each =
      let rest = pairs-below-le sizes m (omega arith) each in
      let last = pairs-in m (sizes m) (each m (omega arith)) in
      omega (arith, rest, last)

  -- in all spaces together there are no more than the Size
  pub pairs-le : (n : ℕ) → SizeOf g A (Below count) n → pairs_below g count (length g) ≤ n
  pairs-le n size =
      let all = pairs-below-le size.sizes (length g) (omega arith) size.in_space in
      omega (arith, all, size.is_sum)

-- the child spaces of a part
pub children-at : (parts : List Part) (s : ℕ) (part : Part) → slice_get parts s ≡ Some part →
    unwrap_or (slice_get (map (λ (p : Part). p.children) parts) s) (0, 0) ≡ part.children
children-at parts s part at =
    ap (λ (o : Option (ℕ × ℕ)). unwrap_or o (0, 0))
    (slice_get-map (λ (p : Part). p.children) parts s ∙ ap (λ (o : Option Part). option_map (λ (p : Part). p.children) o) at)

-- the pairs of all parts are no more than the Size
pub pairs_of-le : (g : Spaces) (shelf : Contents) (a : AutoView) (pairs n size : ℕ) → IsSized g shelf (a, size) → length a.parts ≤ n →
    n ≤ length a.parts → pairs ≤ pairs_below (guide_of a) (states_of a) n → pairs ≤ size
pairs_of-le g shelf a pairs n size sized done within few =
    let many : length (guide_of a) ≡ n = length-map a.parts (λ (p : Part). p.children) ∙ (omega (arith, done, within)) in
    let over : guide_of a ≡ g = sized.auto.over in
    let all = pairs-le g (automaton_of shelf a) (states_of a) size sized.size in
    let same : pairs_below (guide_of a) (states_of a) n ≡ pairs_below g (states_of a) (length g) =
    ap (λ (k : ℕ). pairs_below (guide_of a) (states_of a) k) (sym many) ∙ ap (λ (h : Spaces). pairs_below h (states_of a) (length h)) over in
    omega (arith, few, all, same)
