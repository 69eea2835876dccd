-- How the children of positions' spaces are found.
use Rattle.std.proofs.Common.{◌≡◌, ℕ, zero, suc, ◌+◌, ◌<◌, ◌≤◌, Bool, true, false, if◌then◌else◌, List, [], ◌∷◌, ◌++◌, length, get_or, Contains, ◌⊎◌}
use Rattle.std.proofs.Common.{inl, inr, refl, sym, ap, subst, ◌∙◌, arith, get_or-set_other, get_or-set_same, length-append}
use Rattle.std.proofs.Math.ListN.{set, length-set}
use Rattle.std.specs.List.{sum_by}
use Rattle.std.specs.Prelude.{replicate}
use Rattle.std.proofs.lemmas.Bool.{cases_eq, false≢true}
use Rattle.std.proofs.lemmas.List.Elements.{Contains-append_left, Contains-append_right, Contains-append_cases}
use Rattle.std.proofs.lemmas.List.Sums.{sum_by-set}
use Rattle.gta_theory.specs.Assignments.{Position}
use Rattle.gta_theory.specs.Guides.{Spaces, IsGuide, IsSpace, left, right, space_at}
use Rattle.gta_theory.proofs.ListsLemmas.{Contains-first, Contains-cases, Contains-none}
use Rattle.ws2s_theory.specs.Merging.{child_space, IsChildTest}
use Rattle.ws2s_theory.proofs.MergingLemmas.{space_at-child}
use Rattle.gta_atom.specs.Children.{is_marked, marked_test, waiting_after, NoneMarked, IsDone, HasPosition, Finding}

-- a mark that was written
marked-set : (marks : List Bool) (c s : ℕ) → is_marked (set marks c true) s ≡ true → (is_marked marks s ≡ true) ⊎ (s ≡ c)
marked-set marks c s is = elim (cases_eq s c) [
  | inl same ↦ inr same
  | inr other ↦ inl (sym (get_or-set_other marks c s true false other) ∙ is)
]

set-marked : (marks : List Bool) (c s : ℕ) → is_marked marks s ≡ true → c < length marks → is_marked (set marks c true) s ≡ true
set-marked marks c s is inside = elim (cases_eq s c) [
  | inl same ↦ subst (λ (t : ℕ). is_marked (set marks c true) t ≡ true) (sym same) (get_or-set_same marks c true false inside)
  | inr other ↦ get_or-set_other marks c s true false other ∙ is
]

set-same : (marks : List Bool) (c : ℕ) → c < length marks → is_marked (set marks c true) c ≡ true
set-same marks c inside = get_or-set_same marks c true false inside

-- what waits
Contains-after : (met : List Bool) (waiting : List ℕ) (c s : ℕ) → Contains waiting s → Contains (waiting_after met waiting c) s
Contains-after met waiting c s h = pick (is_marked met c)
  where
    pick : (b : Bool) → Contains (if b then waiting else waiting ++ c ∷ []) s
    pick true = h
    pick false = Contains-append_left waiting (c ∷ []) s h

after-Contains : (met : List Bool) (waiting : List ℕ) (c s : ℕ) → Contains (waiting_after met waiting c) s → Contains waiting s ⊎ (s ≡ c)
after-Contains met waiting c s h = pick (is_marked met c) h
  where
    pick : (b : Bool) → Contains (if b then waiting else waiting ++ c ∷ []) s → Contains waiting s ⊎ (s ≡ c)
    pick true found = inl found
    pick false found = elim (Contains-append_cases waiting (c ∷ []) s found) [
      | inl early ↦ inl early
      | inr last ↦ elim (Contains-cases c s [] last) [ inl same ↦ inr (sym same) | inr none ↦ absurd (Contains-none s none) ]
    ]

newly : (met : List Bool) (waiting : List ℕ) (c : ℕ) → is_marked met c ≡ false → Contains (waiting_after met waiting c) c
newly met waiting c is =
    subst (λ (b : Bool). Contains (if b then waiting else waiting ++ c ∷ []) c) (sym is) (Contains-append_right waiting (c ∷ []) c (Contains-first c []))

-- at the start the root's space waits
module _ (g : Spaces) (guide : IsGuide g) (by_zero by_one met : List Bool) (zeros : length by_zero ≡ length g) (ones : length by_one ≡ length g)
    (mets : length met ≡ length g) (none : NoneMarked by_zero by_one) (unmet_all : (s : ℕ) → is_marked met s ≡ false) where
  only-root : (s : ℕ) → is_marked (set met 0 true) s ≡ true → s ≡ 0
  only-root s is = elim (marked-set met 0 s is) [
    | inl was ↦ absurd (false≢true (sym (unmet_all s) ∙ was))
    | inr same ↦ same
  ]

  root-marked : is_marked (set met 0 true) 0 ≡ true
  root-marked = set-same met 0 (let n : 0 < length g = guide.not_empty in omega arith)

  pub Finding-start : Finding g by_zero by_one (set met 0 true) (waiting_after met [] 0)
  Finding-start = record {
    zeros = zeros;
    ones = ones;
    mets = length-set met 0 true ∙ mets;
    root = root-marked;
    marked = λ letter s is. absurd (false≢true (sym (none letter s) ∙ is));
    met_at = λ s is. ([], sym (only-root s is));
    waits = λ s h. elim (after-Contains met [] 0 s h) [
      | inl nowhere ↦ absurd (Contains-none s nowhere)
      | inr same ↦ (subst (IsSpace g) (sym same) guide.not_empty, subst (λ (t : ℕ). is_marked (set met 0 true) t ≡ true) (sym same) root-marked)
    ];
    each = λ s is. inl (subst (Contains (waiting_after met [] 0)) (sym (only-root s is)) (newly met [] 0 (unmet_all 0)));
  }

-- one space is done
module _ (g : Spaces) (guide : IsGuide g) (by_zero by_one met : List Bool) (waiting : List ℕ) (space : ℕ)
    (so_far : Finding g by_zero by_one met (waiting ++ space ∷ [])) where
  abbrev l : ℕ
  l = left g space

  abbrev r : ℕ
  r = right g space

  abbrev zero_now : List Bool
  zero_now = set by_zero l true

  abbrev one_now : List Bool
  one_now = set by_one r true

  abbrev met_left : List Bool
  met_left = set met l true

  abbrev met_now : List Bool
  met_now = set met_left r true

  abbrev waiting_left : List ℕ
  waiting_left = waiting_after met waiting l

  abbrev waiting_now : List ℕ
  waiting_now = waiting_after met_left waiting_left r

  pub turn-inside : IsSpace g space
  turn-inside = (so_far.waits space (Contains-append_right waiting (space ∷ []) space (Contains-first space []))).0

  l-inside : IsSpace g l
  l-inside = guide.left_inside space turn-inside

  r-inside : IsSpace g r
  r-inside = guide.right_inside space turn-inside

  pub l-met : l < length met
  l-met = let i : l < length g = l-inside in let m = so_far.mets in omega arith

  pub r-met : r < length met_left
  r-met = let i : r < length g = r-inside in let m = so_far.mets in omega (arith, length-set met l true)

  pub l-zero : l < length by_zero
  l-zero = let i : l < length g = l-inside in let m = so_far.zeros in omega arith

  pub r-one : r < length by_one
  r-one = let i : r < length g = r-inside in let m = so_far.ones in omega arith

  position : HasPosition g space
  position = so_far.met_at space (so_far.waits space (Contains-append_right waiting (space ∷ []) space (Contains-first space []))).1

  -- what was met still is
  still : (s : ℕ) → is_marked met s ≡ true → is_marked met_now s ≡ true
  still s is = set-marked met_left r s (set-marked met l s is l-met) r-met

  left-met : is_marked met_now l ≡ true
  left-met = set-marked met_left r l (set-same met l l-met) r-met

  right-met : is_marked met_now r ≡ true
  right-met = set-same met_left r r-met

  now-cases : (s : ℕ) → is_marked met_now s ≡ true → (is_marked met s ≡ true) ⊎ ((s ≡ l) ⊎ (s ≡ r))
  now-cases s is = elim (marked-set met_left r s is) [
    | inl before ↦ elim (marked-set met l s before) [ inl was ↦ inl was | inr same ↦ inr (inl same) ]
    | inr same ↦ inr (inr same)
  ]

  still-waits : (s : ℕ) → Contains waiting s → Contains waiting_now s
  still-waits s h = Contains-after met_left waiting_left r s (Contains-after met waiting l s h)

  marked-zero : (s : ℕ) → is_marked zero_now s ≡ true → (u : Position) × (left g (space_at g 0 u) ≡ s)
  marked-zero s is = elim (marked-set by_zero l s is) [
    | inl was ↦ so_far.marked false s was
    | inr same ↦ (position.0, ap (left g) position.1 ∙ sym same)
  ]

  marked-one : (s : ℕ) → is_marked one_now s ≡ true → (u : Position) × (right g (space_at g 0 u) ≡ s)
  marked-one s is = elim (marked-set by_one r s is) [
    | inl was ↦ so_far.marked true s was
    | inr same ↦ (position.0, ap (right g) position.1 ∙ sym same)
  ]

  marked-now : (letter : Bool) (s : ℕ) → marked_test zero_now one_now letter s ≡ true → (u : Position) × (child_space g letter (space_at g 0 u) ≡ s)
  marked-now false s is = marked-zero s is
  marked-now true s is = marked-one s is

  still-done : (s : ℕ) → IsDone g by_zero by_one met s → IsDone g zero_now one_now met_now s
  still-done s done = record {
    zero = set-marked by_zero l (left g s) done.zero l-zero;
    one = set-marked by_one r (right g s) done.one r-one;
    left_met = still (left g s) done.left_met;
    right_met = still (right g s) done.right_met;
  }

  now-done : IsDone g zero_now one_now met_now space
  now-done = record {
    zero = set-same by_zero l l-zero;
    one = set-same by_one r r-one;
    left_met = left-met;
    right_met = right-met;
  }

  each-was : (s : ℕ) → Contains (waiting ++ space ∷ []) s ⊎ IsDone g by_zero by_one met s → Contains waiting_now s ⊎ IsDone g zero_now one_now met_now s
  each-was s (inr done) = inr (still-done s done)
  each-was s (inl waits) = elim (Contains-append_cases waiting (space ∷ []) s waits) [
    | inl early ↦ inl (still-waits s early)
    | inr last ↦ elim (Contains-cases space s [] last) [
      | inl same ↦ inr (subst (IsDone g zero_now one_now met_now) same now-done)
      | inr none ↦ absurd (Contains-none s none)
    ]
  ]

  left-waits : (b : Bool) → is_marked met l ≡ b → Contains waiting_now l ⊎ IsDone g zero_now one_now met_now l
  left-waits true was = each-was l (so_far.each l was)
  left-waits false new = inl (Contains-after met_left waiting_left r l (newly met waiting l new))

  right-waits : (b : Bool) → is_marked met_left r ≡ b → Contains waiting_now r ⊎ IsDone g zero_now one_now met_now r
  right-waits false new = inl (newly met_left waiting_left r new)
  right-waits true was = elim (marked-set met l r was) [
    | inl before ↦ each-was r (so_far.each r before)
    | inr same ↦ subst (λ (s : ℕ). Contains waiting_now s ⊎ IsDone g zero_now one_now met_now s) (sym same) (left-waits (is_marked met l) refl)
  ]

  each-now : (s : ℕ) → is_marked met_now s ≡ true → Contains waiting_now s ⊎ IsDone g zero_now one_now met_now s
  each-now s is = elim (now-cases s is) [
    | inl was ↦ each-was s (so_far.each s was)
    | inr new ↦ elim new [
      | inl same ↦ subst (λ (t : ℕ). Contains waiting_now t ⊎ IsDone g zero_now one_now met_now t) (sym same) (left-waits (is_marked met l) refl)
      | inr same ↦ subst (λ (t : ℕ). Contains waiting_now t ⊎ IsDone g zero_now one_now met_now t) (sym same) (right-waits (is_marked met_left r) refl)
    ]
  ]

  met_at-now : (s : ℕ) → is_marked met_now s ≡ true → HasPosition g s
  met_at-now s is = elim (now-cases s is) [
    | inl was ↦ so_far.met_at s was
    | inr new ↦ elim new [
      | inl same ↦ (position.0 ++ false ∷ [], space_at-child g guide position.0 false 0 ∙ ap (left g) position.1 ∙ sym same)
      | inr same ↦ (position.0 ++ true ∷ [], space_at-child g guide position.0 true 0 ∙ ap (right g) position.1 ∙ sym same)
    ]
  ]

  waits-now : (s : ℕ) → Contains waiting_now s → IsSpace g s × (is_marked met_now s ≡ true)
  waits-now s h = elim (after-Contains met_left waiting_left r s h) [
    | inl before ↦ elim (after-Contains met waiting l s before) [
      | inl was ↦ (let w = so_far.waits s (Contains-append_left waiting (space ∷ []) s was) in (w.0, still s w.1))
      | inr same ↦ (subst (IsSpace g) (sym same) l-inside, subst (λ (t : ℕ). is_marked met_now t ≡ true) (sym same) left-met)
    ]
    | inr same ↦ (subst (IsSpace g) (sym same) r-inside, subst (λ (t : ℕ). is_marked met_now t ≡ true) (sym same) right-met)
  ]

  pub Finding-turn : Finding g zero_now one_now met_now waiting_now
  Finding-turn = record {
    zeros = length-set by_zero l true ∙ so_far.zeros;
    ones = length-set by_one r true ∙ so_far.ones;
    mets = length-set met_left r true ∙ length-set met l true ∙ so_far.mets;
    root = still 0 so_far.root;
    marked = marked-now;
    met_at = met_at-now;
    waits = waits-now;
    each = each-now;
  }

-- with nothing waiting the marks are the test
module _ (g : Spaces) (guide : IsGuide g) (by_zero by_one met : List Bool) (found : Finding g by_zero by_one met []) where
  done : (s : ℕ) → is_marked met s ≡ true → IsDone g by_zero by_one met s
  done s is = elim (found.each s is) [ inl waits ↦ absurd (Contains-none s waits) | inr is_done ↦ is_done ]

  all-met : (u : Position) (s : ℕ) → is_marked met s ≡ true → is_marked met (space_at g s u) ≡ true
  all-met [] s is = is
  all-met (false ∷ u) s is = all-met u (left g s) (done s is).left_met
  all-met (true ∷ u) s is = all-met u (right g s) (done s is).right_met

  children-marked : (letter : Bool) (s : ℕ) → is_marked met s ≡ true → marked_test by_zero by_one letter (child_space g letter s) ≡ true
  children-marked false s is = (done s is).zero
  children-marked true s is = (done s is).one

  pub IsChildTest-found : IsChildTest g (marked_test by_zero by_one)
  IsChildTest-found = record {
    exactly = λ letter s there. (
      (λ is. found.marked letter s is),
      (λ h. subst (λ (t : ℕ). marked_test by_zero by_one letter t ≡ true) h.1
          (children-marked letter (space_at g 0 h.0) (all-met h.0 0 found.root))),
    );
  }

-- how much is left: a space that wasn't met counts twice
abbrev pub unmet : Bool → ℕ
unmet true = 0
unmet false = 2

abbrev pub weight : List Bool → List ℕ → ℕ
weight met waiting = sum_by unmet met + length waiting

pub weight-meet : (met : List Bool) (waiting : List ℕ) (c : ℕ) → c < length met → weight (set met c true) (waiting_after met waiting c) ≤ weight met waiting
weight-meet met waiting c inside = pick (is_marked met c) refl (sum_by-set unmet met c true false inside)
  where
    pick : (b : Bool) → is_marked met c ≡ b → sum_by unmet (set met c true) + unmet (get_or met c false) ≡ sum_by unmet met + unmet true →
        weight (set met c true) (waiting_after met waiting c) ≤ weight met waiting
    pick true is e =
        let f : unmet (get_or met c false) ≡ 0 = ap unmet is in
        let w : waiting_after met waiting c ≡ waiting = ap (λ (b : Bool). if b then waiting else waiting ++ c ∷ []) is in
        omega (arith, ap (λ (xs : List ℕ). length xs) w)
    pick false is e =
        let f : unmet (get_or met c false) ≡ 2 = ap unmet is in
        let w : waiting_after met waiting c ≡ waiting ++ c ∷ [] = ap (λ (b : Bool). if b then waiting else waiting ++ c ∷ []) is in
        omega (arith, ap (λ (xs : List ℕ). length xs) w, length-append waiting (c ∷ []))

-- no space is marked at the start
pub none-marked : (n s : ℕ) → is_marked (replicate n false) s ≡ false
none-marked zero s = refl
none-marked (suc n) zero = refl
none-marked (suc n) (suc s) = none-marked n s
