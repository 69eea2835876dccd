-- No assignment weighs less than what was found for its value.
use Rattle.std.proofs.Common.{◌≡◌, ◌≢◌, ℕ, zero, suc, ◌+◌, ◌*◌, ◌<◌, ◌≤◌, Bool, true, false, List, [], ◌∷◌, Option, Some, None, inl, inr, ◌⊎◌}
use Rattle.std.proofs.Common.{refl, sym, ap, subst, ◌∙◌, arith, slice_get, length, if◌then◌else◌}
use Rattle.std.specs.Prelude.{MatchOption, slice_index, nat_lt, min}
use Rattle.std.proofs.lemmas.Bool.{false≢true, cases_Bool, cases_lt, ltb-true}
use Rattle.std.proofs.lemmas.Option.{slice_get-get_or}
use Rattle.labels.specs.Labels.{Label, empty_label, with_below}
use Rattle.labels.proofs.LabelsLemmas.{with_below-under, with_below-from}
use Rattle.bdd_list.specs.declared.listing.Listed.{Listed}
use Rattle.bdd_list.specs.declared.listing.Listed.TheVariants.{Leaf, Inner}
use Rattle.bdd_list.specs.declared.listing.ListedNode.{ListedNode}
use Rattle.bdd_list.specs.Listing.{function_in, node_at, rank, IsIn, AsksNoneBelow, AreOrdered}
use Rattle.bdd_list.proofs.ListingLemmas.{function_in-leaf, function_in-inner}
use Rattle.gta_theory.specs.Assignments.{Assignment, Covers, half, root_label}
use Rattle.gta_theory.specs.Guides.{Spaces, IsSpace, left, right}
use Rattle.gta_theory.specs.Automata.{value, Accepts}
use Rattle.gta_theory.specs.Weights.{label_weight, weight}
use Rattle.gta_theory.proofs.AssignmentsLemmas.{Covers-half}
use Rattle.gta_theory.proofs.AutomataLemmas.{Accepts-at, value-same}
use Rattle.ws2s_core.specs.declared.track.Track.{Track}
use Rattle.ws2s_core.specs.declared.label_tree.TreeNode.{TreeNode}
use Rattle.ws2s_core.specs.LabelTrees.{assignment_of}
use Rattle.ws2s_core.proofs.LabelTreesLemmas.{Covers-tree}
use Rattle.gta_reach.specs.declared.form.FormSpace.{FormSpace}
use Rattle.gta_reach.specs.declared.form.Form.{Form}
use Rattle.gta_reach.specs.Form.{guide_of, automaton_of, states_of, cell_in, root_in, IsForm}
use Rattle.gta_reach.proofs.ReachLemmas.{left-at, right-at, initial-at, initial-form, step-at, many_spaces, none-inside}
use Rattle.gta_witness.specs.declared.goal.Goal.{Goal}
use Rattle.gta_witness.specs.declared.goal.Goal.TheVariants.{State, Node, Row, Column}
use Rattle.gta_witness.specs.declared.goal.Reason.TheVariants.{Initial, Member, Cell, Side}
use Rattle.gta_witness.specs.declared.goal.Weight.{Weight}
use Rattle.gta_witness.specs.Lightest.{is_among, each_once, HasTree, none, root, HasRoom, IsLightestTree, AreTooLarge}
use Rattle.gta_witness.specs.Rules.{initial, row, column, cell, low, high, goal_at, bit_cost, key, nothing, together, counted, bits_counted}
use Rattle.gta_witness.specs.Rules.{with_node, with_bits}
use Rattle.gta_witness.specs.Searching.{Findings, IsSettled, IsCovered, IsOver, IsAcceptingAt}
use Rattle.gta_witness.specs.Reading.{IsReadable}
use Rattle.gta_witness.specs.Growing.{IsTreeTo}
use Rattle.gta_witness.proofs.SearchLemmas.{settled-once, together-nothing}
use Rattle.gta_witness.proofs.AttainLemmas.{IsStateAt, derived-attained, attained-bits}
use Rattle.gta_witness.proofs.WeighingLemmas.{label_weight-same, label_weight-more, label_weight-le}

-- the order of weights
bits-le : (u w : Weight) → u.bits ≤ 18446744073709551615 → w.nodes ≤ 4294967295 → key u ≤ key w → u.bits ≤ w.bits
bits-le u w counts few below = elim (cases_lt w.bits u.bits) [
  | inl over ↦ absurd (omega arith)
  | inr within ↦ within
]

together-left : (u v : Weight) → u.nodes ≤ 4294967295 → key u ≤ key (with_node (together u v))
together-left u v few = omega arith

together-right : (u v : Weight) → v.nodes ≤ 4294967295 → key v ≤ key (with_node (together u v))
together-right u v few = omega arith

together-more : (u v w x : Weight) → w.nodes ≤ 4294967295 → x.nodes ≤ 4294967295 → key u ≤ key w → key v ≤ key x →
    key (with_node (together u v)) ≤ key (with_node (together w x))
together-more u v w x few_w few_x one other = elim (cases_lt (w.bits + x.bits) 18446744073709551615) [
  | inl counts ↦
      let a : u.bits ≤ w.bits = omega arith in
      let b : v.bits ≤ x.bits = omega arith in
      elim (cases_lt (u.bits + v.bits) (w.bits + x.bits)) [
        | inl fewer ↦ omega arith
        | inr same ↦
            let c : u.bits ≡ w.bits = omega arith in
            let d : v.bits ≡ x.bits = omega arith in
            let e : u.nodes ≤ w.nodes = omega arith in
            let f : v.nodes ≤ x.nodes = omega arith in
            omega arith
      ]
  | inr last ↦ omega arith
]

-- more bits on both sides
bits-more : (i j k : ℕ) (u v : Weight) → j + i ≤ k → key v ≤ key (with_bits j u) → key (with_bits i v) ≤ key (with_bits k u)
bits-more i j k u v sum below = omega arith

bits-sum : (label l r : ℕ) → bits_counted (label + bits_counted (bits_counted l + bits_counted r)) ≡ bits_counted (label + (l + r))
bits-sum label l r = omega arith

counted-sum : (l r : ℕ) → counted (counted l + counted r + 1) ≡ counted (suc (l + r))
counted-sum l r = omega arith

-- each assignment has a tree
tree-of : (n : ℕ) (a : Assignment) → Covers n a → (m : ℕ) × HasTree m a
tree-of zero a covers = (0, none a covers)
tree-of (suc n) a covers =
    let l = tree-of n (half false a) (Covers-half n false a covers) in
    let r = tree-of n (half true a) (Covers-half n true a covers) in
    (suc (l.0 + r.0), root l.0 r.0 a l.1 r.1)

module _ (form : Form) (is_form : IsForm form) (tracks : List Track) (found : Findings) (bound : Option ℕ)
    (over : IsOver form (is_among tracks) found bound) where
  abbrev ts : List ℕ
  ts = each_once tracks

  -- the goal is settled no higher, or the bound is no higher
  abbrev Low : Goal → Weight → Type 0
  Low goal w = ((u : Weight) × IsSettled found goal u × (key u ≤ key w)) ⊎ MatchOption bound ⊥ (λ b. b ≤ key w)

  bound-more : (o : Option ℕ) (u w : ℕ) → u ≤ w → MatchOption o ⊥ (λ b. b ≤ u) → MatchOption o ⊥ (λ b. b ≤ w)
  bound-more None u w more h = h
  bound-more (Some b) u w more h = omega arith

  covered-low : (goal : Goal) (w : Weight) → IsCovered found goal w → Low goal w
  covered-low goal w covered = elim (cases_Bool (covered.entry.is_settled)) [
    | inl settled ↦ inl (covered.entry.weight, record { entry = covered.entry; there = covered.there; settled = settled; weighs = refl }, covered.no_higher)
    | inr unsettled ↦ inr (bound-more bound (key covered.entry.weight) (key w) covered.no_higher (over.others goal covered.entry covered.there unsettled))
  ]

  -- on from a goal that is settled
  low-then : (one other : Goal) (u w : Weight) → key u ≤ key w → Low one u → ((v : Weight) → IsSettled found one v → key v ≤ key u → Low other w) → Low other w
  low-then one other u w more so on = elim so [
    | inl settled ↦ on settled.0 settled.1 settled.2
    | inr below ↦ inr (bound-more bound (key u) (key w) more below)
  ]

  low-more : (goal : Goal) (u w : Weight) → key u ≤ key w → Low goal u → Low goal w
  low-more goal u w more so = low-then goal goal u w more so (λ v settled below. inl (v, settled, omega arith))

  -- the label above a track
  abbrev above : ℕ → Label → Label
  above t m = with_below t empty_label m

  above-true : (t v : ℕ) (m : Label) → above t m v ≡ true → (t ≤ v) × (m v ≡ true)
  above-true t v m e = elim (cases_lt v t) [
    | inl under ↦ absurd (false≢true (sym (with_below-under t empty_label m v under) ∙ e))
    | inr from ↦ (from, sym (with_below-from t empty_label m v from) ∙ e)
  ]

  above-le : (t k : ℕ) (m : Label) → t ≤ k → label_weight ts (above k m) ≤ label_weight ts (above t m)
  above-le t k m more = label_weight-le ts (above k m) (above t m) (λ v e.
      let h = above-true k v m e in with_below-from t empty_label m v (omega arith) ∙ h.1)

  above-set : (t k : ℕ) (m : Label) → t ≤ k → m k ≡ true → bit_cost (is_among tracks) k + label_weight ts (above (suc k) m) ≤ label_weight ts (above t m)
  above-set t k m more set =
      let one = label_weight-more tracks k (above (suc k) m) (above k m)
      (with_below-under (suc k) empty_label m k (omega arith))
      (with_below-from k empty_label m k (omega arith) ∙ set)
      (λ u differs. elim (cases_lt u k) [
        | inl under ↦ with_below-under k empty_label m u under ∙ sym (with_below-under (suc k) empty_label m u (omega arith))
        | inr from ↦ with_below-from k empty_label m u from ∙ sym (with_below-from (suc k) empty_label m u (past u from differs))
      ]) in
      let two = above-le t k m more in
      omega arith
    where
      past : (u : ℕ) → k ≤ u → u ≢ k → suc k ≤ u
      past u from differs = omega arith

  -- down a function
  module _ (s : ℕ) (space : FormSpace) (at : slice_get form.spaces s ≡ Some space) (ordered : AreOrdered space.listing.nodes) (m : Label) where
    down : (k : ℕ) (x : Listed) (t : ℕ) (u : Weight) → rank x ≤ k → IsIn space.listing.nodes x → AsksNoneBelow space.listing.nodes t x →
        IsSettled found (goal_at s x) u → Low (State s (function_in space.listing.nodes x m)) (with_bits (label_weight ts (above t m)) u)
    down k (Leaf p) t u within inside asks settled =
        subst (λ (y : ℕ). Low (State s y) (with_bits (label_weight ts (above t m)) u)) (sym (function_in-leaf space.listing.nodes p m)) (inl (
          u,
          settled,
          omega arith,
        ))
    down zero (Inner i) t u within inside asks settled = absurd (omega arith)
    down (suc k) (Inner i) t u within inside asks settled =
        let node = node_at space.listing.nodes i in
        let there : i < length space.listing.nodes = omega arith in
        let at_i : slice_get space.listing.nodes i ≡ Some node =
        slice_get-get_or space.listing.nodes i (record { track = 0; low = Leaf 0; high = Leaf 0 }) there in
        let lows = ordered.low i there in
        let highs = ordered.high i there in
        let inner = function_in-inner space.listing.nodes i m there lows.before highs.before in
        let from : t ≤ node.track = asks in
        elim (cases_Bool (m node.track)) [
          | inl set ↦
              let is : function_in space.listing.nodes (Inner i) m ≡ function_in space.listing.nodes node.high m =
              inner ∙ ap (λ (b : Bool). if b then function_in space.listing.nodes node.high m else function_in space.listing.nodes node.low m) set in
              let covered = over.closed (Node s i ∷ []) (with_bits (bit_cost (is_among tracks) node.track)) (goal_at s node.high) (Side i true)
              (high s i space node at at_i)
              u (u, nothing, settled, refl, together-nothing u) in
              let more = above-set t node.track m from set in
              subst (λ (y : ℕ). Low (State s y) (with_bits (label_weight ts (above t m)) u)) (sym is)
              (low-then (goal_at s node.high) (State s (function_in space.listing.nodes node.high m)) (with_bits (bit_cost (is_among tracks) node.track) u)
              (with_bits (label_weight ts (above t m)) u)
              (omega arith) (covered-low (goal_at s node.high) (with_bits (bit_cost (is_among tracks) node.track) u) covered) (λ v high_settled below.
              low-more (State s (function_in space.listing.nodes node.high m)) (with_bits (label_weight ts (above (suc node.track) m)) v)
              (with_bits (label_weight ts (above t m)) u)
              (bits-more (label_weight ts (above (suc node.track) m)) (bit_cost (is_among tracks) node.track) (label_weight ts (above t m)) u v more below)
              (down k node.high (suc node.track) v (let b = highs.before in omega arith) (let b = highs.before in omega arith) highs.later high_settled)))
          | inr unset ↦
              let is : function_in space.listing.nodes (Inner i) m ≡ function_in space.listing.nodes node.low m =
              inner ∙ ap (λ (b : Bool). if b then function_in space.listing.nodes node.high m else function_in space.listing.nodes node.low m) unset in
              let covered = over.closed (Node s i ∷ []) (λ x. x) (goal_at s node.low) (Side i false) (low s i space node at at_i)
              u (u, nothing, settled, refl, together-nothing u) in
              let more = above-le t (suc node.track) m (omega arith) in
              subst (λ (y : ℕ). Low (State s y) (with_bits (label_weight ts (above t m)) u)) (sym is)
              (low-then (goal_at s node.low) (State s (function_in space.listing.nodes node.low m)) u (with_bits (label_weight ts (above t m)) u)
              (omega arith) (covered-low (goal_at s node.low) u covered) (λ v low_settled below.
              low-more (State s (function_in space.listing.nodes node.low m)) (with_bits (label_weight ts (above (suc node.track) m)) v)
              (with_bits (label_weight ts (above t m)) u) (omega arith)
              (down k node.low (suc node.track) v (let b = lows.before in omega arith) (let b = lows.before in omega arith) lows.later low_settled)))
        ]

  abbrev g : Spaces
  g = guide_of form

  -- values are states
  value-below : (n s : ℕ) (a : Assignment) → IsSpace g s → nat_lt (value g (automaton_of form) s n a) (states_of form s) ≡ true
  value-below zero s a there = is_form.closed.initial s there
  value-below (suc n) s a there = is_form.closed.step s (value g (automaton_of form) (left g s) n (half false a))
      (value g (automaton_of form) (right g s) n (half true a)) (root_label a) there
      (value-below n (left g s) (half false a) (is_form.guide.left_inside s there))
      (value-below n (right g s) (half true a) (is_form.guide.right_inside s there))

  space-of : (s : ℕ) → IsSpace g s → (space : FormSpace) × (slice_get form.spaces s ≡ Some space)
  space-of s there = pick (slice_get form.spaces s) refl
    where
      pick : (o : Option FormSpace) → slice_get form.spaces s ≡ o → (space : FormSpace) × (slice_get form.spaces s ≡ Some space)
      pick None e = absurd (none-inside form.spaces s e (let m = many_spaces form in omega arith))
      pick (Some space) e = (space, e)

  asks-none : (nodes : List ListedNode) (x : Listed) → AsksNoneBelow nodes 0 x
  asks-none nodes (Leaf p) = tt
  asks-none nodes (Inner i) = omega arith

  -- a step from settled states
  step-low : (s p q : ℕ) (u v left_most right_most : Weight) (m : Label) → IsSpace g s → p < states_of form (left g s) → q < states_of form (right g s) →
      IsSettled found (State (left g s) p) u → key u ≤ key left_most → left_most.nodes ≤ 4294967295 →
      IsSettled found (State (right g s) q) v → key v ≤ key right_most → right_most.nodes ≤ 4294967295 →
      Low (State s ((automaton_of form).step s p q m)) (with_bits (label_weight ts m) (with_node (together left_most right_most)))
  step-low s p q u v left_most right_most m there p_in q_in of_left u_most few_left of_right v_most few_right =
      let space = (space-of s there).0 in
      let at = (space-of s there).1 in
      let is = is_form.spaces s space at in
      let class_p = slice_index space.rows p in
      let class_q = slice_index space.columns q in
      let at_p : slice_get space.rows p ≡ Some class_p = slice_get-get_or space.rows p 0 (let b = is.rows in omega arith) in
      let at_q : slice_get space.columns q ≡ Some class_q = slice_get-get_or space.columns q 0 (let b = is.columns in omega arith) in
      let at_cell : slice_get space.cells (class_p * space.width + class_q) ≡ Some (cell_in space p q) =
      slice_get-get_or space.cells (class_p * space.width + class_q) 0 (is.cells p q p_in q_in) in
      let listed = root_in space (cell_in space p q) in
      let at_root : slice_get space.listing.roots (cell_in space p q) ≡ Some listed =
      slice_get-get_or space.listing.roots (cell_in space p q) (Leaf 0) (is.roots p q p_in q_in) in
      let l : IsSettled found (State space.children.0 p) u = subst (λ (k : ℕ). IsSettled found (State k p) u) (left-at form s space at) of_left in
      let r : IsSettled found (State space.children.1 q) v = subst (λ (k : ℕ). IsSettled found (State k q) v) (right-at form s space at) of_right in
      let root_most : Weight = with_node (together left_most right_most) in
      let w : Weight = with_bits (label_weight ts m) root_most in
      let end : Goal = State s ((automaton_of form).step s p q m) in
      let all : label_weight ts (above 0 m) ≡ label_weight ts m = label_weight-same ts (above 0 m) m (λ t. with_below-from 0 empty_label m t (omega arith)) in
      let of_row = low-more (Row s class_p) u left_most u_most (covered-low (Row s class_p) u
      (over.closed (State space.children.0 p ∷ []) (λ x. x) (Row s class_p) (Member p) (row s p class_p space at at_p) u
      (u, nothing, l, refl, together-nothing u))) in
      let of_column = low-more (Column s class_q) v right_most v_most (covered-low (Column s class_q) v
      (over.closed (State space.children.1 q ∷ []) (λ x. x) (Column s class_q) (Member q) (column s q class_q space at at_q) v
      (v, nothing, r, refl, together-nothing v))) in
      let left_within = together-left left_most right_most few_left in
      let right_within = together-right left_most right_most few_right in
      low-then (Row s class_p) end left_most w (omega arith) of_row (λ u' row_settled u_below.
      low-then (Column s class_q) end right_most w (omega arith) of_column (λ v' column_settled v_below.
      low-then (goal_at s listed) end root_most w (omega arith)
      (low-more (goal_at s listed) (with_node (together u' v')) root_most (together-more u' v' left_most right_most few_left few_right u_below v_below)
      (covered-low (goal_at s listed) (with_node (together u' v'))
      (over.closed (Row s class_p ∷ Column s class_q ∷ []) with_node (goal_at s listed) (Cell class_p class_q)
      (cell s class_p class_q (cell_in space p q) space listed at at_cell at_root) (together u' v')
      (u', v', row_settled, (v', nothing, column_settled, refl, together-nothing v'), refl))))
      (λ x root_settled x_below.
      subst (λ (k : ℕ). Low (State s k) w) (sym (step-at form s space at p q m))
      (low-more (State s (function_in space.listing.nodes listed m)) (with_bits (label_weight ts (above 0 m)) x) w (omega arith)
      (down s space at is.ordered m (rank listed) listed 0 x (omega arith) (is.inside (cell_in space p q) (is.roots p q p_in q_in))
      (asks-none space.listing.nodes listed) root_settled)))))

  -- an initial state weighs nothing
  initial-low : (s : ℕ) (w : Weight) → IsSpace g s → Low (State s ((automaton_of form).initial s)) w
  initial-low s w there =
      let space = (space-of s there).0 in
      let at = (space-of s there).1 in
      let first : space.initial ≡ (automaton_of form).initial s = sym (initial-form form s ∙ initial-at form s space at) in
      subst (λ (k : ℕ). Low (State s k) w) first
      (low-more (State s space.initial) nothing w (omega arith) (covered-low (State s space.initial) nothing
      (over.closed [] (λ x. x) (State s space.initial) Initial (initial s space at) nothing refl)))

  -- what a tree of the assignment weighs
  abbrev tree_weight : ℕ → ℕ → Assignment → Weight
  tree_weight n m a = record { bits = bits_counted (weight ts n a); nodes = counted m }

  -- no tree of an assignment weighs less
  lower : (n s m : ℕ) (a : Assignment) → HasTree m a → Covers n a → IsSpace g s →
      Low (State s (value g (automaton_of form) s n a)) (tree_weight n m a)
  lower zero s m a tree covers there = initial-low s (tree_weight 0 m a) there
  lower (suc n) s _ _ (none a empty) covers there =
      subst (λ (k : ℕ). Low (State s k) (tree_weight (suc n) 0 a))
      (sym (value-same g is_form.guide (automaton_of form) is_form.stable s (suc n) 0 a there covers empty))
      (initial-low s (tree_weight (suc n) 0 a) there)
  lower (suc n) s _ _ (root i j a on_left on_right) covers there =
      let l_there = is_form.guide.left_inside s there in
      let r_there = is_form.guide.right_inside s there in
      let p = value g (automaton_of form) (left g s) n (half false a) in
      let q = value g (automaton_of form) (right g s) n (half true a) in
      let p_in = ltb-true p (states_of form (left g s)) (value-below n (left g s) (half false a) l_there) in
      let q_in = ltb-true q (states_of form (right g s)) (value-below n (right g s) (half true a) r_there) in
      let end : Goal = State s ((automaton_of form).step s p q (root_label a)) in
      let left_most : Weight = tree_weight n i (half false a) in
      let right_most : Weight = tree_weight n j (half true a) in
      let few_left : left_most.nodes ≤ 4294967295 = omega arith in
      let few_right : right_most.nodes ≤ 4294967295 = omega arith in
      let w : Weight = tree_weight (suc n) (suc (i + j)) a in
      let sum : with_bits (label_weight ts (root_label a)) (with_node (together left_most right_most)) ≡ w = (λ k. record {
        bits = bits-sum (label_weight ts (root_label a)) (weight ts n (half false a)) (weight ts n (half true a)) k;
        nodes = counted-sum i j k;
      }) in
      let left_within = together-left left_most right_most few_left in
      let right_within = together-right left_most right_most few_right in
      subst (Low end) sum
      (low-then (State (left g s) p) end left_most (with_bits (label_weight ts (root_label a)) (with_node (together left_most right_most))) (omega arith)
      (lower n (left g s) i (half false a) on_left (Covers-half n false a covers) l_there) (λ u of_left u_below.
      low-then (State (right g s) q) end right_most (with_bits (label_weight ts (root_label a)) (with_node (together left_most right_most))) (omega arith)
      (lower n (right g s) j (half true a) on_right (Covers-half n true a covers) r_there) (λ v of_right v_below.
      step-low s p q u v left_most right_most (root_label a) there p_in q_in of_left u_below few_left of_right v_below few_right)))

  -- no tree of what is accepted weighs less than the bound
  pub accepted-bound : (n m : ℕ) (a : Assignment) → Covers n a → Accepts (guide_of form) (automaton_of form) a → HasTree m a →
      MatchOption bound ⊥ (λ b. b ≤ key (record { bits = bits_counted (weight (each_once tracks) n a); nodes = counted m }))
  accepted-bound n m a covers accepts tree =
      let accepting = Accepts-at g is_form.guide (automaton_of form) is_form.stable n a covers accepts in
      elim (lower n 0 m a tree covers is_form.guide.not_empty) [
        | inl settled ↦ bound-more bound (key settled.0) (key (tree_weight n m a)) settled.2
            (over.none (value g (automaton_of form) 0 n a) settled.0 accepting settled.1)
        | inr below ↦ below
      ]

exactly : (n bits : ℕ) → bits_counted n ≡ bits → bits < 18446744073709551615 → n ≡ bits
exactly n bits counts few = omega arith

-- nothing that is accepted has fewer bits than a bound that has room
least-bits : (form : Form) (is_form : IsForm form) (tracks : List Track) (found : Findings) (w : Weight) →
    IsOver form (is_among tracks) found (Some (key w)) → HasRoom w.bits w.nodes → (n : ℕ) (a : Assignment) → Covers n a →
    Accepts (guide_of form) (automaton_of form) a → w.bits ≤ weight (each_once tracks) n a
least-bits form is_form tracks found w over room n a covers accepts =
    let one = tree-of n a covers in
    let other : Weight = record { bits = bits_counted (weight (each_once tracks) n a); nodes = counted one.0 } in
    let below = bits-le w other (let b = room.0 in omega arith) (omega arith)
    (accepted-bound form is_form tracks found (Some (key w)) over n one.0 a covers accepts one.1) in
    omega arith

-- the tree of a lightest accepting state is a lightest one
pub lightest-form : (form : Form) (is_form : IsForm form) (tracks : List Track) (found : Findings) (q : ℕ) (w : Weight) (nodes : List TreeNode) →
    IsOver form (is_among tracks) found (Some (key w)) → IsAcceptingAt form found q w → HasRoom w.bits w.nodes → IsTreeTo form tracks found q nodes →
    IsLightestTree (guide_of form) (automaton_of form) tracks nodes w.bits
lightest-form form is_form tracks found q w nodes over accepting room tree = record {
  accepted = record {
    depth = length nodes;
    covers = Covers-tree nodes;
    accepted = ap (λ (k : ℕ). (automaton_of form).accepting k) tree.is_value ∙ accepting.accepting;
  };
  weighs = exactly (weight (each_once tracks) (length nodes) (assignment_of nodes)) w.bits
      (tree.weighs ∙ ap (λ (x : Weight). x.bits) same) room.0;
  room = (room.0, let few = room.1 in let counts = counts-are in omega arith);
  least = least-bits form is_form tracks found w over room;
  fewest = λ n m a covers accepts is_weight one.
      let below = accepted-bound form is_form tracks found (Some (key w)) over n m a covers accepts one in
      no-more w.bits w.nodes (weight (each_once tracks) n a) m (length nodes) room.0 below is_weight counts-are;
}
  where
    same : tree.least ≡ w
    same = settled-once found (State 0 q) tree.least w tree.settled accepting.settled

    counts-are : length nodes ≡ w.nodes
    counts-are = tree.counts ∙ ap (λ (x : Weight). x.nodes) same

    no-more : (bits nodes b m n : ℕ) → bits < 18446744073709551615 →
        min (bits * 4294967296 + nodes) 79228162514264337589248983040 ≤ min (bits_counted b * 4294967296 + counted m) 79228162514264337589248983040 →
        b ≡ bits → n ≡ nodes → n ≤ m
    no-more bits nodes b m n few below same_bits is_nodes = omega arith

-- a lightest accepting state has an assignment
module _ (form : Form) (is_form : IsForm form) (tracks : List Track) (found : Findings) (q : ℕ) (w : Weight)
    (over : IsOver form (is_among tracks) found (Some (key w))) (accepting : IsAcceptingAt form found q w) where
  at : IsStateAt form (each_once tracks) 0 q w
  at = derived-attained form is_form tracks (State 0 q) w (over.derived (State 0 q) w accepting.settled)

  accepts-at : Accepts (guide_of form) (automaton_of form) at.assignment
  accepts-at = record {
    depth = at.depth;
    covers = at.covers;
    accepted = ap (λ (k : ℕ). (automaton_of form).accepting k) at.is_value ∙ accepting.accepting;
  }

  -- where it has no room, lightest trees have none
  pub large-form : (HasRoom w.bits w.nodes → ⊥) → AreTooLarge (Accepts (guide_of form) (automaton_of form)) (each_once tracks)
  large-form full = record {
    some = (at.depth, at.assignment, at.covers, accepts-at);
    no_room = λ n m a least tree room.
        let below = accepted-bound form is_form tracks found (Some (key w)) over n m a least.covers least.holds tree in
        let no_less = least.least at.depth at.assignment at.covers accepts-at in
        full (within w.bits w.nodes (weight (each_once tracks) at.depth at.assignment) (weight (each_once tracks) n a) m at.bits no_less room.0 room.1 below);
  }
    where
      within : (bits nodes exact b m : ℕ) → bits_counted exact ≡ bits → b ≤ exact → b < 18446744073709551615 → m < 4294967295 →
          min (bits * 4294967296 + nodes) 79228162514264337589248983040 ≤ min (bits_counted b * 4294967296 + counted m) 79228162514264337589248983040 →
          HasRoom bits nodes
      within bits nodes exact b m counts no_less few_bits few_nodes below = (omega arith, omega arith)

  -- where it has room, one has
  pub room-form : HasRoom w.bits w.nodes → AreTooLarge (Accepts (guide_of form) (automaton_of form)) (each_once tracks) → ⊥
  room-form room large =
      let is_weight = exactly (weight (each_once tracks) at.depth at.assignment) w.bits at.bits room.0 in
      large.no_room at.depth at.nodes at.assignment (record {
        covers = at.covers;
        holds = accepts-at;
        least = λ n a covers accepts. let b = least-bits form is_form tracks found w over room n a covers accepts in omega arith;
      }) at.tree ((let few = room.0 in omega arith), few-nodes at.nodes w.nodes at.counts room.1)
    where
      few-nodes : (n nodes : ℕ) → counted n ≡ nodes → nodes < 4294967295 → n < 4294967295
      few-nodes n nodes counts few = omega arith

pub none-form : (form : Form) (is_form : IsForm form) (tracks : List Track) (found : Findings) → IsOver form (is_among tracks) found None → (a : Assignment) →
    Accepts (guide_of form) (automaton_of form) a → ⊥
none-form form is_form tracks found over a accepts =
    let one = tree-of accepts.depth a accepts.covers in
    accepted-bound form is_form tracks found None over accepts.depth one.0 a accepts.covers accepts one.1

-- what is settled in the end is read off
pub readable-form : (form : Form) (is_form : IsForm form) (tracks : List Track) (found : Findings) (bound : Option ℕ) →
    IsOver form (is_among tracks) found bound → IsReadable form tracks found
readable-form form is_form tracks found bound over = record {
  is_form = is_form;
  justified = over.justified;
  counted = λ goal w settled. attained-bits form is_form tracks goal w (derived-attained form is_form tracks goal w (over.derived goal w settled));
}
