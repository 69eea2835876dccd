-- On weights: the depth is free once it covers, fewer positions weigh no more, and a relaxed table has the least weights.
use Rattle.std.proofs.Common.{◌≡◌, ℕ, zero, suc, ◌+◌, ◌<◌, ◌≤◌, max, Bool, true, false, cond, eqb, IsTrue, ◌↔◌, inl, inr, List, [], ◌∷◌}
use Rattle.std.proofs.Common.{Contains, Option, Some, None, unwrap_or, refl, sym, ap, subst, ◌∙◌, arith, eqb-true}
use Rattle.std.proofs.lemmas.Bool.{false≢true}
use Rattle.labels.specs.Labels.{Label, empty_label}
use Rattle.gta_theory.specs.Assignments.{PositionSet, Assignment, Covers, half, root_label, empty_assignment, replace, no_positions}
use Rattle.gta_theory.specs.Guides.{Spaces, IsSpace, IsGuide, left, right}
use Rattle.gta_theory.specs.Automata.{Automaton, value, IsStable, Accepts, IsValue}
use Rattle.gta_theory.specs.Weights.{label_weight, weight, IsWithinOn, Weighs, IsLeastWeight, WeightTable, IsRelaxed, IsLightest}
use Rattle.gta_theory.proofs.AssignmentsLemmas.{Covers-half, Covers-half_same, Covers-more, root_label-covered, joined, Covers-joined, Covers-empty}
use Rattle.gta_theory.proofs.AutomataLemmas.{value-same, Accepts-at}

-- the empty label weighs nothing
label_weight-empty : (tracks : List ℕ) → label_weight tracks empty_label ≡ 0
label_weight-empty [] = refl
label_weight-empty (t ∷ tracks) = omega (arith, label_weight-empty tracks)

-- a bit weighs no more than one that it brings about
bit-le : (b c : Bool) → (IsTrue b → IsTrue c) → cond b 1 0 ≤ cond c 1 0
bit-le true true to = omega arith
bit-le true false to = absurd (false≢true (to refl))
bit-le false true to = omega arith
bit-le false false to = omega arith

Contains-more : (x y : ℕ) (xs : List ℕ) → Contains xs y → Contains (x ∷ xs) y
Contains-more x y xs h = (suc h.0, omega (arith, h.1), h.2)

label_weight-le : (tracks : List ℕ) (l m : Label) → ((t : ℕ) → Contains tracks t → IsTrue (l t) → IsTrue (m t)) →
    label_weight tracks l ≤ label_weight tracks m
label_weight-le [] l m to = omega arith
label_weight-le (t ∷ tracks) l m to =
    let one = bit-le (l t) (m t) (to t (0, omega arith, refl)) in
    let others = label_weight-le tracks l m (λ u within. to u (Contains-more t u tracks within)) in
    omega (arith, one, others)

module _ (tracks : List ℕ) where
  -- the weight to a deeper depth is the same
  pub weight-deeper : (n m : ℕ) (a : Assignment) → Covers n a → n ≤ m → weight tracks m a ≡ weight tracks n a
  weight-deeper zero zero a covers deeper = refl
  weight-deeper zero (suc m) a covers deeper =
      let root : label_weight tracks (root_label a) ≡ 0 = ap (label_weight tracks) (root_label-covered a covers) ∙ label_weight-empty tracks in
      let l = weight-deeper zero m (half false a) (Covers-half_same 0 false a covers) (omega arith) in
      let r = weight-deeper zero m (half true a) (Covers-half_same 0 true a covers) (omega arith) in
      omega (arith, root, l, r)
  weight-deeper (suc n) zero a covers deeper = absurd (omega arith)
  weight-deeper (suc n) (suc m) a covers deeper =
      let l = weight-deeper n m (half false a) (Covers-half n false a covers) (omega arith) in
      let r = weight-deeper n m (half true a) (Covers-half n true a covers) (omega arith) in
      λ i. label_weight tracks (root_label a) + (l i + r i)

  -- the weight is the same to any two depths that cover
  pub weight-same : (n m : ℕ) (a : Assignment) → Covers n a → Covers m a → weight tracks n a ≡ weight tracks m a
  weight-same n m a in_n in_m =
      sym (weight-deeper n (max n m) a in_n (omega arith)) ∙ weight-deeper m (max n m) a in_m (omega arith)

  -- fewer positions weigh no more
  pub weight-le : (n : ℕ) (a b : Assignment) → IsWithinOn tracks a b → weight tracks n a ≤ weight tracks n b
  weight-le zero a b within = omega arith
  weight-le (suc n) a b within =
      let root = label_weight-le tracks (root_label a) (root_label b) (λ t listed. within t [] listed) in
      let l = weight-le n (half false a) (half false b) (λ t p. within t (false ∷ p)) in
      let r = weight-le n (half true a) (half true b) (λ t p. within t (true ∷ p)) in
      omega (arith, root, l, r)

  -- a track that is emptied
  pub weight-emptied : (n t : ℕ) (a : Assignment) → weight tracks n (replace a t no_positions) ≤ weight tracks n a
  weight-emptied n t a = weight-le n (replace a t no_positions) a (λ u p listed. pick (eqb u t) (a u p))
    where
      pick : (b c : Bool) → IsTrue (cond b false c) → IsTrue c
      pick true c is = absurd (false≢true is)
      pick false c is = is

  -- a track that isn't listed
  pub weight-unlisted : (n t : ℕ) (a : Assignment) (set : PositionSet) → (Contains tracks t → ⊥) →
      weight tracks n (replace a t set) ≡ weight tracks n a
  weight-unlisted n t a set unlisted =
      let down = weight-le n (replace a t set) a (λ u p listed. pick u (eqb u t) refl listed (set p) (a u p)) in
      let up = weight-le n a (replace a t set) (λ u p listed. pick-back u (eqb u t) refl listed (set p) (a u p)) in
      omega (arith, down, up)
    where
      pick : (u : ℕ) (b : Bool) → eqb u t ≡ b → Contains tracks u → (c d : Bool) → IsTrue (cond b c d) → IsTrue d
      pick u true is listed c d h = absurd (unlisted (subst (Contains tracks) (eqb-true u t is) listed))
      pick u false is listed c d h = h

      pick-back : (u : ℕ) (b : Bool) → eqb u t ≡ b → Contains tracks u → (c d : Bool) → IsTrue d → IsTrue (cond b c d)
      pick-back u true is listed c d h = absurd (unlisted (subst (Contains tracks) (eqb-true u t is) listed))
      pick-back u false is listed c d h = h

some-same : (u v : ℕ) (o : Option ℕ) → o ≡ Some u → o ≡ Some v → u ≡ v
some-same u v o one other = ap (λ x. unwrap_or x 0) (sym one ∙ other)

module _ {Q : Type 0} (g : Spaces) (guide : IsGuide g) (A : Automaton Q) (stable : IsStable g A) (tracks : List ℕ) where
  -- the initial state weighs nothing
  pub Weighs-initial : (s : ℕ) → Weighs g A tracks s (A.initial s) 0
  Weighs-initial s = record { assignment = empty_assignment; depth = 0; covers = Covers-empty; is_value = refl; is_weight = refl }

  -- a step adds the weights of its children and of its label
  pub Weighs-step : (s : ℕ) (p q : Q) (label : Label) (u v : ℕ) → IsSpace g s →
      Weighs g A tracks (left g s) p u → Weighs g A tracks (right g s) q v →
      Weighs g A tracks s (A.step s p q label) (label_weight tracks label + (u + v))
  Weighs-step s p q label u v there l r =
      let n : ℕ = max l.depth r.depth in
      let in_l : Covers n l.assignment = Covers-more l.depth n l.assignment (omega arith) l.covers in
      let in_r : Covers n r.assignment = Covers-more r.depth n r.assignment (omega arith) r.covers in
      let is_l = value-same g guide A stable (left g s) n l.depth l.assignment (guide.left_inside s there) in_l l.covers ∙ l.is_value in
      let is_r = value-same g guide A stable (right g s) n r.depth r.assignment (guide.right_inside s there) in_r r.covers ∙ r.is_value in
      let of_l = weight-same tracks n l.depth l.assignment in_l l.covers ∙ l.is_weight in
      let of_r = weight-same tracks n r.depth r.assignment in_r r.covers ∙ r.is_weight in
      record {
        assignment = joined label l.assignment r.assignment;
        depth = suc n;
        covers = Covers-joined n label l.assignment r.assignment in_l in_r;
        is_value = λ i. A.step s (is_l i) (is_r i) label;
        is_weight = λ i. label_weight tracks label + (of_l i + of_r i);
      }

  module _ (weights : WeightTable Q) (rank : ℕ → Q → ℕ) (relaxed : IsRelaxed g A tracks weights rank) where
    -- every value has a weight in the table, and no greater one than the assignment's
    table-le : (n s : ℕ) (a : Assignment) → IsSpace g s →
        (w : ℕ) × (weights s (value g A s n a) ≡ Some w) × (w ≤ weight tracks n a)
    table-le zero s a there = (0, relaxed.initial s there, omega arith)
    table-le (suc n) s a there =
        let l = table-le n (left g s) (half false a) (guide.left_inside s there) in
        let r = table-le n (right g s) (half true a) (guide.right_inside s there) in
        let w = relaxed.no_less s (value g A (left g s) n (half false a)) (value g A (right g s) n (half true a)) (root_label a)
        l.0 r.0 there l.1 r.1 in
        (w.0, w.1, omega (arith, w.2, l.2, r.2))

    -- every weight of the table is that of some assignment, by the rank
    Weighs-below : (k s : ℕ) (q : Q) (w : ℕ) → IsSpace g s → rank s q < k → weights s q ≡ Some w → Weighs g A tracks s q w
    Weighs-below zero s q w there below is = absurd (omega arith)
    Weighs-below (suc k) s q w there below is =
        elim (relaxed.attained s q w there is) as (λ _. Weighs g A tracks s q w) [
          | inl first ↦ subst (λ x. Weighs g A tracks s x w) first.0 (subst (Weighs g A tracks s (A.initial s)) first.1 (Weighs-initial s))
          | inr step ↦
              let l = Weighs-below k (left g s) step.at_left step.left_weight (guide.left_inside s there)
              (omega (arith, step.left_before)) step.of_left in
              let r = Weighs-below k (right g s) step.at_right step.right_weight (guide.right_inside s there)
              (omega (arith, step.right_before)) step.of_right in
              subst (λ x. Weighs g A tracks s x w) step.is_step (subst (Weighs g A tracks s (A.step s step.at_left step.at_right step.label)) step.is_sum
              (Weighs-step s step.at_left step.at_right step.label step.left_weight step.right_weight there l r))
        ]

    pub Weighs-table : (s : ℕ) (q : Q) (w : ℕ) → IsSpace g s → weights s q ≡ Some w → Weighs g A tracks s q w
    Weighs-table s q w there is = Weighs-below (suc (rank s q)) s q w there (omega arith) is

    -- the table has the least weights
    pub IsLeastWeight-table : (s : ℕ) (q : Q) (w : ℕ) → IsSpace g s → (weights s q ≡ Some w) ↔ IsLeastWeight g A tracks s q w
    IsLeastWeight-table s q w there = (
      (λ is. record {
        weighs = Weighs-table s q w there is;
        least = λ n a covers is_q.
            let found = table-le n s a there in
            let same = some-same found.0 w (weights s q) (subst (λ x. weights s x ≡ Some found.0) is_q found.1) is in
            omega (arith, same, found.2);
      }),
      (λ h.
          let of_w = h.weighs in
          let found = table-le of_w.depth s of_w.assignment there in
          let is : weights s q ≡ Some found.0 = subst (λ x. weights s x ≡ Some found.0) of_w.is_value found.1 in
          let other = Weighs-table s q found.0 there is in
          let no_less = h.least other.depth other.assignment other.covers other.is_value in
          let same : found.0 ≡ w = omega (arith, no_less, other.is_weight, of_w.is_weight, found.2) in
          is ∙ ap Some same),
    )

    -- and none exactly for a state that is no value
    pub None-table : (s : ℕ) (q : Q) → IsSpace g s → (weights s q ≡ None) ↔ (IsValue g A s q → ⊥)
    None-table s q there = (
      (λ none v.
          let found = table-le v.depth s v.assignment there in
          some-none found.0 (sym (subst (λ x. weights s x ≡ Some found.0) v.is_value found.1) ∙ none)),
      (λ no_value. pick no_value (weights s q) refl),
    )
      where
        some-none : (w : ℕ) → Some w ≡ None → ⊥
        some-none w e = absurd cc

        pick : (IsValue g A s q → ⊥) → (o : Option ℕ) → weights s q ≡ o → weights s q ≡ None
        pick no_value None is = is
        pick no_value (Some w) is =
            let v = Weighs-table s q w there is in
            absurd (no_value (record { assignment = v.assignment; depth = v.depth; covers = v.covers; is_value = v.is_value }))

    -- the lightest accepted assignment weighs as much as the lightest accepting state
    pub IsLightest-table : (q : Q) (w : ℕ) → IsTrue (A.accepting q) → weights 0 q ≡ Some w →
        ((p : Q) (u : ℕ) → IsTrue (A.accepting p) → weights 0 p ≡ Some u → w ≤ u) → IsLightest g A tracks w
    IsLightest-table q w accepting is least =
        let v = Weighs-table 0 q w guide.not_empty is in
        record {
          assignment = v.assignment;
          depth = v.depth;
          covers = v.covers;
          accepted = record { depth = v.depth; covers = v.covers; accepted = ap (λ x. A.accepting x) v.is_value ∙ accepting };
          is_weight = v.is_weight;
          least = λ n a covers accepts.
              let found = table-le n 0 a guide.not_empty in
              let no_less = least (value g A 0 n a) found.0 (Accepts-at g guide A stable n a covers accepts) found.1 in
              omega (arith, no_less, found.2);
        }

    -- where no accepting state has a weight, nothing is accepted
    pub not_accepted-table : ((q : Q) (w : ℕ) → weights 0 q ≡ Some w → IsTrue (A.accepting q) → ⊥) → (a : Assignment) →
        Accepts g A a → ⊥
    not_accepted-table none a accepts =
        let found = table-le accepts.depth 0 a guide.not_empty in
        none (value g A 0 accepts.depth a) found.0 found.1 accepts.accepted
