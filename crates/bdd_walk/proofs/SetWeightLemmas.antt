-- The weights of sets of references.
use Rattle.std.proofs.Common.{◌≡◌, ℕ, suc, zero, ◌+◌, ◌^◌, ◌<◌, ◌≤◌, Bool, cond, List, [], ◌∷◌, map, Some, None, Option, nat_eq, eqb}
use Rattle.std.proofs.Common.{Contains, IsTrue, sym, ◌∙◌, ap, refl, subst, inl, inr, arith, true, false, if◌then◌else◌}
use Rattle.std.specs.List.{list_all, sum_by, dedup, dedup_from, flat_map}
use Rattle.std.specs.List.Sorted.{IsPermutation}
use Rattle.std.specs.Cmp.{IsEquivalence, nat_eq_equiv}
use Rattle.std.proofs.Math.Nat.{pow-suc}
use Rattle.std.proofs.lemmas.Bool.{cases_Bool, cases_lt, eqb-true, eqb-false}
use Rattle.std.proofs.lemmas.List.Kept.{Contains-dedup, Contains-from_dedup}
use Rattle.std.proofs.lemmas.List.Sorted.{Contains-permutation, IsPermutation-sym, sum_by-IsPermutation}
use Rattle.std.proofs.lemmas.List.Sums.{sum_by-cons, sum_by-append}
use Rattle.bdd_nodes.specs.declared.node_ref.NodeRef.{NodeRef}
use Rattle.bdd_nodes.specs.Shelf.{Contents, IsShelf, IsValid, top_of, low_of, high_of, rank_of}
use Rattle.bdd_nodes.specs.Changes.{is_valid}
use Rattle.bdd_nodes.proofs.SplitLemmas.{is_valid-true}
use Rattle.bdd_walk.specs.Laws.{and-left, and-right, same_word}
use Rattle.bdd_walk.specs.Sides.{is_first, side_at, both_at, SomeAsks, set_weight_of, IsSetOf}
use Rattle.bdd_walk.proofs.SidesLemmas.{side-here, side-else, side-known}
use Rattle.bdd_walk.proofs.StandsLemmas.{same_answer}

-- references with one word are the same
refs-equal : IsEquivalence (λ (x y : NodeRef). nat_eq x.word y.word)
refs-equal = record {
  refl = λ x. nat_eq_equiv.refl x.word;
  symm = λ x y. nat_eq_equiv.symm x.word y.word;
  congr = λ x y z. nat_eq_equiv.congr x.word y.word z.word;
}

-- what stands there again weighs no more
module _ (f : NodeRef → ℕ) (same : NodeRef → NodeRef → Bool) where
  dedup_from-within : (x : NodeRef) (xs : List NodeRef) → sum_by f (dedup_from same x xs) ≤ f x + sum_by f xs
  dedup_from-within x [] = let e = sum_by-cons f x [] in omega arith
  dedup_from-within x (y ∷ ys) = elim (cases_Bool (same y x)) [
    | inl is ↦ subst (λ (b : Bool). sum_by f (cond b (dedup_from same x ys) (x ∷ dedup_from same y ys)) ≤ f x + sum_by f (y ∷ ys)) (sym is)
        (let rest = dedup_from-within x ys in let e = sum_by-cons f y ys in omega arith)
    | inr other ↦ subst (λ (b : Bool). sum_by f (cond b (dedup_from same x ys) (x ∷ dedup_from same y ys)) ≤ f x + sum_by f (y ∷ ys)) (sym other)
        (let rest = dedup_from-within y ys in let e = sum_by-cons f y ys in let g = sum_by-cons f x (dedup_from same y ys) in omega arith)
  ]

  dedup-within : (xs : List NodeRef) → sum_by f (dedup same xs) ≤ sum_by f xs
  dedup-within [] = omega arith
  dedup-within (x ∷ xs) = let within = dedup_from-within x xs in let e = sum_by-cons f x xs in omega arith

-- sorted, and each once
pub IsSetOf-made : (rs sorted set : List NodeRef) → IsPermutation rs sorted → set ≡ dedup (λ x y. nat_eq x.word y.word) sorted → IsSetOf rs set
IsSetOf-made rs sorted set moved is = record {
  has = λ r there. subst (λ (ss : List NodeRef). Contains ss r) (sym is)
      (Contains-dedup refs-equal same_word sorted r (Contains-permutation rs sorted r moved there));
  only = λ r there. Contains-permutation sorted rs r (IsPermutation-sym rs sorted moved)
      (Contains-from_dedup (λ x y. nat_eq x.word y.word) sorted r (subst (λ (ss : List NodeRef). Contains ss r) is there));
  within = subst (λ (ss : List NodeRef). set_weight_of ss ≤ set_weight_of rs) (sym is)
      (let less = dedup-within (λ r. 3 ^ rank_of r) (λ x y. nat_eq x.word y.word) sorted in
      let e = sum_by-IsPermutation (λ r. 3 ^ rank_of r) rs sorted moved in omega arith);
}

-- powers of three
three-within : (m n : ℕ) → m ≤ n → 3 ^ m ≤ 3 ^ n
three-within m zero within = let e : m ≡ zero = omega arith in subst (λ (k : ℕ). 3 ^ k ≤ 3 ^ zero) (sym e) (omega arith)
three-within m (suc n) within = elim (cases_lt m (suc n)) [
  | inl below ↦ (let less = three-within m n (omega arith) in let e = pow-suc 3 n in omega arith)
  | inr above ↦ (let e : m ≡ suc n = omega arith in subst (λ (k : ℕ). 3 ^ k ≤ 3 ^ suc n) (sym e) (omega arith))
]

three-positive : (n : ℕ) → 0 < 3 ^ n
three-positive n = let e = three-within zero n (omega arith) in omega arith

three-falls : (m n : ℕ) → m < n → 3 ^ m + (3 ^ m + 3 ^ m) ≤ 3 ^ n
three-falls m zero below = absurd (omega arith)
three-falls m (suc n) below = let less = three-within m n (omega arith) in let e = pow-suc 3 n in omega arith

-- what is taken of a reference under a track
pub data BothCases (shelf : Contents) (track : ℕ) (r : NodeRef) : Type 0 where
  asks : top_of shelf r ≡ Some track → both_at shelf track r ≡ side_at shelf track false r ∷ side_at shelf track true r ∷ [] → BothCases shelf track r
  stays : (top_of shelf r ≡ Some track → ⊥) → ((bit : Bool) → side_at shelf track bit r ≡ r) → both_at shelf track r ≡ r ∷ [] → BothCases shelf track r

module _ (shelf : Contents) (track : ℕ) (r : NodeRef) where
  both-here : (first : Option ℕ) → top_of shelf r ≡ first → is_first first track ≡ true → both_at shelf track r ≡ low_of shelf r ∷ high_of shelf r ∷ []
  both-here first top here =
      ap (λ (o : Option ℕ). if is_first o track then low_of shelf r ∷ high_of shelf r ∷ [] else r ∷ []) top
      ∙ ap (λ (b : Bool). if b then low_of shelf r ∷ high_of shelf r ∷ [] else r ∷ []) here

  both-else : (first : Option ℕ) → top_of shelf r ≡ first → is_first first track ≡ false → both_at shelf track r ≡ r ∷ []
  both-else first top other =
      ap (λ (o : Option ℕ). if is_first o track then low_of shelf r ∷ high_of shelf r ∷ [] else r ∷ []) top
      ∙ ap (λ (b : Bool). if b then low_of shelf r ∷ high_of shelf r ∷ [] else r ∷ []) other

  both-of : (first : Option ℕ) → top_of shelf r ≡ first → BothCases shelf track r
  both-of None top = stays (λ e. let f : None ≡ Some track = sym top ∙ e in cc) (λ bit. side-else shelf track bit r None top refl) (both-else None top refl)
  both-of (Some first) top = elim (cases_Bool (eqb first track)) [
    | inl here ↦ asks (top ∙ ap (λ (n : ℕ). Some n) (eqb-true first track here))
        (both-here (Some first) top here
        ∙ ap (λ (s : NodeRef). s ∷ high_of shelf r ∷ []) (sym (side-here shelf track false r (Some first) top here))
        ∙ ap (λ (s : NodeRef). side_at shelf track false r ∷ s ∷ []) (sym (side-here shelf track true r (Some first) top here)))
    | inr other ↦ stays (λ e. let is : first ≡ track = same_answer first track (sym top ∙ e) in absurd (eqb-false first track other is))
        (λ bit. side-else shelf track bit r (Some first) top other) (both-else (Some first) top other)
  ]

  pub both-cases : BothCases shelf track r
  both-cases = both-of (top_of shelf r) refl

-- the weights of what is taken
module _ (shelf : Contents) (is_shelf : IsShelf shelf) (track : ℕ) where
  weight-cons : (r : NodeRef) (rs : List NodeRef) → set_weight_of (r ∷ rs) ≡ 3 ^ rank_of r + set_weight_of rs
  weight-cons r rs = sum_by-cons (λ r. 3 ^ rank_of r) r rs

  pub set-sides-within : (bit : Bool) (rs : List NodeRef) → IsTrue (list_all (is_valid shelf) rs) →
      set_weight_of (map (side_at shelf track bit) rs) ≤ set_weight_of rs
  set-sides-within bit [] valid = omega arith
  set-sides-within bit (r ∷ rs) valid =
      let side = side-known shelf track bit r is_shelf (is_valid-true shelf r (and-left (is_valid shelf r) (list_all (is_valid shelf) rs) valid)) in
      let here = three-within _ _ side.within in
      let rest = set-sides-within bit rs (and-right (is_valid shelf r) (list_all (is_valid shelf) rs) valid) in
      let e = weight-cons r rs in
      let g = weight-cons (side_at shelf track bit r) (map (side_at shelf track bit) rs) in
      omega arith

  pub set-sides-fall : (bit : Bool) (rs : List NodeRef) → IsTrue (list_all (is_valid shelf) rs) →
      SomeAsks shelf track rs → set_weight_of (map (side_at shelf track bit) rs) < set_weight_of rs
  set-sides-fall bit [] valid some = absurd some
  set-sides-fall bit (r ∷ rs) valid some =
      let side = side-known shelf track bit r is_shelf (is_valid-true shelf r (and-left (is_valid shelf r) (list_all (is_valid shelf) rs) valid)) in
      let rest_valid = and-right (is_valid shelf r) (list_all (is_valid shelf) rs) valid in
      let e = weight-cons r rs in
      let g = weight-cons (side_at shelf track bit r) (map (side_at shelf track bit) rs) in
      elim some [
        | inl first ↦ (let here = three-falls _ _ (side.falls first) in
            let least = three-positive (rank_of (side_at shelf track bit r)) in
            let rest = set-sides-within bit rs rest_valid in omega arith)
        | inr others ↦ (let here = three-within _ _ side.within in let rest = set-sides-fall bit rs rest_valid others in omega arith)
      ]

  both-falls : (r : NodeRef) → IsValid shelf r → top_of shelf r ≡ Some track → set_weight_of (both_at shelf track r) < 3 ^ rank_of r
  both-falls r valid first = elim (both-cases shelf track r) [
    | stays apart same is ↦ absurd (apart first)
    | asks top is ↦
        let low = side-known shelf track false r is_shelf valid in
        let high = side-known shelf track true r is_shelf valid in
        let less_low = three-falls _ _ (low.falls first) in
        let less_high = three-falls _ _ (high.falls first) in
        let least = three-positive (rank_of (side_at shelf track false r)) in
        let none : set_weight_of [] ≡ 0 = refl in
        let e = weight-cons (side_at shelf track false r) (side_at shelf track true r ∷ []) in
        let g = weight-cons (side_at shelf track true r) [] in
        subst (λ (ss : List NodeRef). set_weight_of ss < 3 ^ rank_of r) (sym is) (omega arith)
  ]

  both-within : (r : NodeRef) → IsValid shelf r → set_weight_of (both_at shelf track r) ≤ 3 ^ rank_of r
  both-within r valid = elim (both-cases shelf track r) [
    | stays apart same is ↦ subst (λ (ss : List NodeRef). set_weight_of ss ≤ 3 ^ rank_of r) (sym is) (let e = weight-cons r [] in omega arith)
    | asks top is ↦ (let less = both-falls r valid top in omega arith)
  ]

  all-both-within : (rs : List NodeRef) → IsTrue (list_all (is_valid shelf) rs) → set_weight_of (flat_map (both_at shelf track) rs) ≤ set_weight_of rs
  all-both-within [] valid = omega arith
  all-both-within (r ∷ rs) valid =
      let here = both-within r (is_valid-true shelf r (and-left (is_valid shelf r) (list_all (is_valid shelf) rs) valid)) in
      let rest = all-both-within rs (and-right (is_valid shelf r) (list_all (is_valid shelf) rs) valid) in
      let e = weight-cons r rs in
      let g = sum_by-append (λ r. 3 ^ rank_of r) (both_at shelf track r) (flat_map (both_at shelf track) rs) in
      omega arith

  pub all-both-fall : (rs : List NodeRef) → IsTrue (list_all (is_valid shelf) rs) → SomeAsks shelf track rs →
      set_weight_of (flat_map (both_at shelf track) rs) < set_weight_of rs
  all-both-fall [] valid some = absurd some
  all-both-fall (r ∷ rs) valid some =
      let here_valid = is_valid-true shelf r (and-left (is_valid shelf r) (list_all (is_valid shelf) rs) valid) in
      let rest_valid = and-right (is_valid shelf r) (list_all (is_valid shelf) rs) valid in
      let e = weight-cons r rs in
      let g = sum_by-append (λ r. 3 ^ rank_of r) (both_at shelf track r) (flat_map (both_at shelf track) rs) in
      elim some [
        | inl first ↦ (let here = both-falls r here_valid first in let rest = all-both-within rs rest_valid in omega arith)
        | inr others ↦ (let here = both-within r here_valid in let rest = all-both-fall rs rest_valid others in omega arith)
      ]
