-- Marks of nodes are taken away, and there is a number for each state of a space.
use Rattle.std.proofs.Common.{◌≡◌, ℕ, ◌+◌, ◌<◌, ◌≤◌, Bool, true, false, List, [], length, inl, inr}
use Rattle.std.proofs.Common.{sym, ◌∙◌, ap, arith}
use Rattle.std.specs.Prelude.{Contains, slice_index_or, slice_set}
use Rattle.std.proofs.lemmas.List.{get_or_default, get_or-set_same, get_or-set_other, get_or_past}
use Rattle.std.proofs.lemmas.Bool.{cases_eq, cases_lt}
use Rattle.bdd_list.specs.declared.listing.Listed.{Listed}
use Rattle.bdd_list.specs.declared.listing.Listed.TheVariants.{Leaf, Inner}
use Rattle.gta_classes.specs.declared.part.SpaceClasses.{SpaceClasses}
use Rattle.gta_classes.specs.Chosen.{is_marked}
use Rattle.gta_classes.proofs.MarksLemmas.{unmarked-set}
use Rattle.gta_refine.specs.Refined.{part_at}

-- ---- nodes

-- the marks of the nodes so far are taken away
abbrev pub NodesUnmarkedBelow : List Bool → List Listed → List Bool → ℕ → Type 0
NodesUnmarkedBelow marks list now below = (i : ℕ) → is_marked now i ≡ true →
    (is_marked marks i ≡ true) × ((k : ℕ) → k < below → slice_index_or list k (Leaf 0) ≡ Inner i → ⊥)

pub NodesUnmarkedBelow-none : (marks : List Bool) (list : List Listed) → NodesUnmarkedBelow marks list marks 0
NodesUnmarkedBelow-none marks list i marked = (marked, λ k k_in e. absurd (omega arith))

pub NodesUnmarkedBelow-leaf : (marks : List Bool) (list : List Listed) (now : List Bool) (below q : ℕ) → NodesUnmarkedBelow marks list now below →
    slice_index_or list below (Leaf 0) ≡ Leaf q → NodesUnmarkedBelow marks list now (below + 1)
NodesUnmarkedBelow-leaf marks list now below q so_far is i marked =
    let was = so_far i marked in (
      was.0,
      λ k k_in e. elim (cases_eq k below) [
        | inl same ↦
            let other : Leaf q ≡ Inner i = sym is ∙ ap (λ (j : ℕ). slice_index_or list j (Leaf 0)) (sym same) ∙ e in
            absurd cc
        | inr before ↦ was.1 k (omega arith) e
      ],
    )

pub NodesUnmarkedBelow-node : (marks : List Bool) (list : List Listed) (now : List Bool) (below index : ℕ) → NodesUnmarkedBelow marks list now below →
    slice_index_or list below (Leaf 0) ≡ Inner index → NodesUnmarkedBelow marks list (slice_set now index false) (below + 1)
NodesUnmarkedBelow-node marks list now below index so_far is i marked =
    let from = unmarked-set now index i marked in
    let was = so_far i from.0 in (
      was.0,
      λ k k_in e. elim (cases_eq k below) [
        | inl same ↦
            let there : Inner i ≡ Inner index = sym e ∙ ap (λ (j : ℕ). slice_index_or list j (Leaf 0)) same ∙ is in
            let equal : i ≡ index = cc in
            absurd (from.1 equal)
        | inr before ↦ was.1 k (omega arith) e
      ],
    )

pub nodes-unmarked-all : (marks : List Bool) (list : List Listed) (now : List Bool) → NodesUnmarkedBelow marks list now (length list) → (i : ℕ) →
    is_marked now i ≡ true → (is_marked marks i ≡ true) × (Contains list (Inner i) → ⊥)
nodes-unmarked-all marks list now all i marked =
    let was = all i marked in
    (was.0, λ there. was.1 there.0 there.1 (get_or_default list there.0 (Leaf 0) (Inner i) there.1 ∙ there.2))

-- ---- spaces

-- the parts so far have as many states at most
abbrev pub MostBelow : List SpaceClasses → ℕ → ℕ → Type 0
MostBelow spaces most below = (s : ℕ) → s < below → length (part_at spaces s).reached ≤ most

pub most-all : (spaces : List SpaceClasses) (most : ℕ) → MostBelow spaces most (length spaces) → (s : ℕ) → length (part_at spaces s).reached ≤ most
most-all spaces most all s = elim (cases_lt s (length spaces)) [
  | inl inside ↦ all s inside
  | inr past ↦
      let none : SpaceClasses = record { reached = []; classes = []; representatives = [] } in
      let e : length (part_at spaces s).reached ≡ 0 = ap (λ (part : SpaceClasses). length part.reached) (get_or_past spaces s none past) in
      omega arith
]

-- a part with as many states leaves enough numbers
pub long-set : (spaces : List SpaceClasses) (c : ℕ) (part was : SpaceClasses) (ids new : List ℕ) → c < length spaces →
    was ≡ slice_index_or spaces c was → part.reached ≡ was.reached → length new ≡ length ids →
    ((s : ℕ) → length (part_at spaces s).reached ≤ length ids) → (s : ℕ) → length (part_at (slice_set spaces c part) s).reached ≤ length new
long-set spaces c part was ids new inside is same many long s =
    let none : SpaceClasses = record { reached = []; classes = []; representatives = [] } in
    elim (cases_eq s c) [
      | inl here ↦
          let at : part_at (slice_set spaces c part) s ≡ part =
          ap (part_at (slice_set spaces c part)) here ∙ get_or-set_same spaces c part none inside in
          let own : part_at spaces c ≡ was = get_or_default spaces c none was inside ∙ sym is in
          let e : length (part_at (slice_set spaces c part) s).reached ≡ length (part_at spaces c).reached =
          ap (λ (p : SpaceClasses). length p.reached) at ∙ ap length same ∙ sym (ap (λ (p : SpaceClasses). length p.reached) own) in
          let l = long c in
          omega arith
      | inr other ↦
          let e : length (part_at (slice_set spaces c part) s).reached ≡ length (part_at spaces s).reached =
          ap (λ (p : SpaceClasses). length p.reached) (get_or-set_other spaces c s part none other) in
          let l = long s in
          omega arith
    ]
