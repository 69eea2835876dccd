-- What comes by the rules is attained: an assignment has that value, and the weight that is counted.
use Rattle.std.proofs.Common.{◌≡◌, ℕ, suc, ◌+◌, ◌*◌, ◌<◌, ◌≤◌, Bool, true, false, List, [], ◌∷◌, Option, Some, max}
use Rattle.std.proofs.Common.{refl, sym, ap, subst, ◌∙◌, arith, slice_get, length, if◌then◌else◌}
use Rattle.std.specs.Prelude.{slice_index}
use Rattle.std.proofs.lemmas.Option.{slice_get_within, get_or_from_slice_get}
use Rattle.labels.specs.Labels.{Label, empty_label, with_track}
use Rattle.labels.proofs.LabelsLemmas.{with_track-same, with_track-other}
use Rattle.bdd_list.specs.declared.listing.Listed.{Listed}
use Rattle.bdd_list.specs.declared.listing.Listed.TheVariants.{Leaf, Inner}
use Rattle.bdd_list.specs.declared.listing.ListedNode.{ListedNode}
use Rattle.bdd_list.specs.Listing.{function_in, node_at, IsIn, AsksNoneBelow, AreOrdered}
use Rattle.bdd_list.proofs.ListingLemmas.{function_in-leaf, function_in-inner}
use Rattle.gta_theory.specs.Assignments.{Assignment, Covers, empty_assignment}
use Rattle.gta_theory.specs.Guides.{Spaces, IsSpace, left, right}
use Rattle.gta_theory.specs.Automata.{value}
use Rattle.gta_theory.specs.Weights.{label_weight, weight}
use Rattle.gta_theory.proofs.AssignmentsLemmas.{Covers-more, joined, Covers-joined, Covers-empty}
use Rattle.gta_theory.proofs.AutomataLemmas.{value-same}
use Rattle.gta_theory.proofs.WeightsLemmas.{weight-same}
use Rattle.ws2s_core.specs.declared.track.Track.{Track}
use Rattle.gta_reach.specs.declared.form.FormSpace.{FormSpace}
use Rattle.gta_reach.specs.declared.form.Form.{Form}
use Rattle.gta_reach.specs.Form.{guide_of, automaton_of, cell_in, root_in, step_in, IsForm}
use Rattle.gta_reach.proofs.ReachLemmas.{left-at, right-at, initial-at, initial-form, step-at, many_spaces}
use Rattle.gta_witness.specs.declared.goal.Goal.{Goal}
use Rattle.gta_witness.specs.declared.goal.Goal.TheVariants.{State, Node, Row, Column}
use Rattle.gta_witness.specs.declared.goal.Reason.{Reason}
use Rattle.gta_witness.specs.declared.goal.Weight.{Weight}
use Rattle.gta_witness.specs.Lightest.{is_among, each_once, HasTree, none, root}
use Rattle.gta_witness.specs.Rules.{Rule, initial, row, column, cell, low, high, goal_at, bit_cost, nothing, together, counted, bits_counted}
use Rattle.gta_witness.specs.Rules.{with_node, with_bits}
use Rattle.gta_witness.specs.Deriving.{Derives, no_goals, by_rule, IsDerived}
use Rattle.gta_witness.proofs.SearchLemmas.{together-nothing}
use Rattle.gta_witness.proofs.WeighingLemmas.{label_weight-none, label_weight-more}

-- an assignment with that value in the space has that weight, as it is counted, with some tree
pub record IsStateAt (form : Form) (ts : List ℕ) (s q : ℕ) (w : Weight) : Type 0 where
  pub inside : IsSpace (guide_of form) s
  pub depth : ℕ
  pub assignment : Assignment
  pub covers : Covers depth assignment
  pub is_value : value (guide_of form) (automaton_of form) s depth assignment ≡ q
  pub nodes : ℕ
  pub tree : HasTree nodes assignment
  pub bits : bits_counted (weight ts depth assignment) ≡ w.bits
  pub counts : counted nodes ≡ w.nodes

-- what is listed is come to in the function of two states that assignments have, on a label without tracks from the first one on
-- that is still asked; and under a node with that label they have that weight, as it is counted
pub record IsListedAt (form : Form) (ts : List ℕ) (s : ℕ) (x : Listed) (w : Weight) : Type 0 where
  pub space : FormSpace
  pub at : slice_get form.spaces s ≡ Some space
  pub at_left : ℕ
  pub at_right : ℕ
  pub left_weight : Weight
  pub right_weight : Weight
  pub of_left : IsStateAt form ts (left (guide_of form) s) at_left left_weight
  pub of_right : IsStateAt form ts (right (guide_of form) s) at_right right_weight
  pub within : IsIn space.listing.nodes x
  pub first : ℕ
  pub label : Label
  pub asks : AsksNoneBelow space.listing.nodes first x
  pub unset : (t : ℕ) → first ≤ t → label t ≡ false
  pub gives : (m : Label) → ((t : ℕ) → t < first → m t ≡ label t) → step_in space at_left at_right m ≡ function_in space.listing.nodes x m
  pub bits : bits_counted (label_weight ts label + (left_weight.bits + right_weight.bits)) ≡ w.bits
  pub counts : counted (left_weight.nodes + right_weight.nodes + 1) ≡ w.nodes

-- a state of the class is attained among the states of the child
pub record IsClassAt (form : Form) (ts : List ℕ) (child : ℕ) (classes : List ℕ) (class : ℕ) (w : Weight) : Type 0 where
  pub state : ℕ
  pub of_class : slice_get classes state ≡ Some class
  pub attained : IsStateAt form ts child state w

abbrev pub IsAttained : Form → List ℕ → Goal → Weight → Type 0
IsAttained form ts (State s q) w = IsStateAt form ts s q w
IsAttained form ts (Node s i) w = IsListedAt form ts s (Inner i) w
IsAttained form ts (Row t class) w = (space : FormSpace) × (slice_get form.spaces t ≡ Some space)
    × IsClassAt form ts space.children.0 space.rows class w
IsAttained form ts (Column t class) w = (space : FormSpace) × (slice_get form.spaces t ≡ Some space)
    × IsClassAt form ts space.children.1 space.columns class w

abbrev AreAttained : Form → List ℕ → List Goal → Weight → Type 0
AreAttained form ts [] w = nothing ≡ w
AreAttained form ts (goal ∷ goals) w =
    (u : Weight) × (v : Weight) × IsAttained form ts goal u × AreAttained form ts goals v × (together u v ≡ w)

same-space : (o : Option FormSpace) (x y : FormSpace) → o ≡ Some x → o ≡ Some y → x ≡ y
same-space o x y one other = let e : Some x ≡ Some y = sym one ∙ other in cc

class-is : (xs : List ℕ) (i x : ℕ) → slice_get xs i ≡ Some x → slice_index xs i ≡ x
class-is xs i x at = get_or_from_slice_get xs i x 0 at

one-weight : (u v total : Weight) → nothing ≡ v → together u v ≡ total → u ≡ total
one-weight u v total empty sum = sym (together-nothing u) ∙ ap (together u) empty ∙ sum

module _ (form : Form) (is_form : IsForm form) (tracks : List Track) where
  abbrev g : Spaces
  g = guide_of form

  abbrev ts : List ℕ
  ts = each_once tracks

  is-space : (s : ℕ) (space : FormSpace) → slice_get form.spaces s ≡ Some space → IsSpace (guide_of form) s
  is-space s space at = let b = slice_get_within form.spaces s space at in let m = many_spaces form in omega arith

  bits-joined : (label l r u v w : ℕ) → bits_counted l ≡ u → bits_counted r ≡ v → bits_counted (label + (u + v)) ≡ w → bits_counted (label + (l + r)) ≡ w
  bits-joined label l r u v w is_l is_r sum = omega arith

  nodes-joined : (l r u v w : ℕ) → counted l ≡ u → counted r ≡ v → counted (u + v + 1) ≡ w → counted (suc (l + r)) ≡ w
  nodes-joined l r u v w is_l is_r sum = omega arith

  -- a leaf is come to by a step
  listed-goal : (s : ℕ) (x : Listed) (w : Weight) → IsListedAt form ts s x w → IsAttained form ts (goal_at s x) w
  listed-goal s (Inner i) w at = at
  listed-goal s (Leaf q) w at =
      let l = at.of_left in
      let r = at.of_right in
      let inside = is-space s at.space at.at in
      let is_q : (automaton_of form).step s at.at_left at.at_right at.label ≡ q =
      step-at form s at.space at.at at.at_left at.at_right at.label ∙ at.gives at.label (λ t below. refl)
      ∙ function_in-leaf at.space.listing.nodes q at.label in
      let n : ℕ = max l.depth r.depth in
      let in_l : Covers n l.assignment = Covers-more l.depth n l.assignment (omega arith) l.covers in
      let in_r : Covers n r.assignment = Covers-more r.depth n r.assignment (omega arith) r.covers in
      let is_l = value-same g is_form.guide (automaton_of form) is_form.stable (left g s) n l.depth l.assignment l.inside in_l l.covers ∙ l.is_value in
      let is_r = value-same g is_form.guide (automaton_of form) is_form.stable (right g s) n r.depth r.assignment r.inside in_r r.covers ∙ r.is_value in
      let of_l = weight-same ts n l.depth l.assignment in_l l.covers in
      let of_r = weight-same ts n r.depth r.assignment in_r r.covers in
      let a : Assignment = joined at.label l.assignment r.assignment in
      record {
        inside = inside;
        depth = suc n;
        assignment = a;
        covers = Covers-joined n at.label l.assignment r.assignment in_l in_r;
        is_value = ap (λ (k : ℕ). (automaton_of form).step s k (value g (automaton_of form) (right g s) n r.assignment) at.label) is_l
            ∙ ap (λ (k : ℕ). (automaton_of form).step s at.at_left k at.label) is_r ∙ is_q;
        nodes = suc (l.nodes + r.nodes);
        tree = root l.nodes r.nodes a l.tree r.tree;
        bits = ap (λ (k : ℕ). bits_counted (label_weight ts at.label + (k + weight ts n r.assignment))) of_l
            ∙ ap (λ (k : ℕ). bits_counted (label_weight ts at.label + (weight ts l.depth l.assignment + k))) of_r
            ∙ bits-joined (label_weight ts at.label) (weight ts l.depth l.assignment) (weight ts r.depth r.assignment) at.left_weight.bits
            at.right_weight.bits w.bits l.bits r.bits at.bits;
        counts = nodes-joined l.nodes r.nodes at.left_weight.nodes at.right_weight.nodes w.nodes l.counts r.counts at.counts;
      }

  -- from a node to its sides
  module _ (t i : ℕ) (w : Weight) (at : IsListedAt form ts t (Inner i) w) where
    nodes : List ListedNode
    nodes = at.space.listing.nodes

    ordered : AreOrdered nodes
    unfolding nodes
    ordered = (is_form.spaces t at.space at.at).ordered

    side-low : IsListedAt form ts t (node_at at.space.listing.nodes i).low w
    unfolding nodes
    side-low =
        let inside : i < length at.space.listing.nodes = at.within in
        let lows = ordered.low i inside in
        let highs = ordered.high i inside in
        let track : ℕ = (node_at at.space.listing.nodes i).track in
        let from : at.first ≤ track = at.asks in
        record {
          space = at.space;
          at = at.at;
          at_left = at.at_left;
          at_right = at.at_right;
          left_weight = at.left_weight;
          right_weight = at.right_weight;
          of_left = at.of_left;
          of_right = at.of_right;
          within = let b = lows.before in omega arith;
          first = suc track;
          label = at.label;
          asks = lows.later;
          unset = λ u above. at.unset u (omega arith);
          gives = λ m same. at.gives m (λ u below. same u (omega arith))
              ∙ function_in-inner at.space.listing.nodes i m inside lows.before highs.before
              ∙ ap (λ (b : Bool). if b then function_in at.space.listing.nodes (node_at at.space.listing.nodes i).high m
              else function_in at.space.listing.nodes (node_at at.space.listing.nodes i).low m) (same track (omega arith) ∙ at.unset track from);
          bits = at.bits;
          counts = at.counts;
        }

    side-high : IsListedAt form ts t (node_at at.space.listing.nodes i).high
        (with_bits (bit_cost (is_among tracks) (node_at at.space.listing.nodes i).track) w)
    unfolding nodes
    side-high =
        let inside : i < length at.space.listing.nodes = at.within in
        let lows = ordered.low i inside in
        let highs = ordered.high i inside in
        let track : ℕ = (node_at at.space.listing.nodes i).track in
        let from : at.first ≤ track = at.asks in
        let more : Label = with_track at.label track true in
        let cost = label_weight-more tracks track at.label more (at.unset track from) (with_track-same at.label track true)
        (λ u differs. with_track-other at.label track u true differs) in
        record {
          space = at.space;
          at = at.at;
          at_left = at.at_left;
          at_right = at.at_right;
          left_weight = at.left_weight;
          right_weight = at.right_weight;
          of_left = at.of_left;
          of_right = at.of_right;
          within = let b = highs.before in omega arith;
          first = suc track;
          label = more;
          asks = highs.later;
          unset = λ u above. with_track-other at.label track u true (λ e. absurd (omega arith)) ∙ at.unset u (omega arith);
          gives = λ m same. at.gives m (λ u below. same u (omega arith) ∙ with_track-other at.label track u true (λ e. absurd (omega arith)))
              ∙ function_in-inner at.space.listing.nodes i m inside lows.before highs.before
              ∙ ap (λ (b : Bool). if b then function_in at.space.listing.nodes (node_at at.space.listing.nodes i).high m
              else function_in at.space.listing.nodes (node_at at.space.listing.nodes i).low m)
              (same track (omega arith) ∙ with_track-same at.label track true);
          bits = one-more (label_weight ts at.label) (label_weight ts more) (bit_cost (is_among tracks) track)
              (at.left_weight.bits + at.right_weight.bits) w.bits cost at.bits;
          counts = at.counts;
        }
      where
        one-more : (before after cost others bits : ℕ) → after ≡ cost + before → bits_counted (before + others) ≡ bits →
            bits_counted (after + others) ≡ bits_counted (cost + bits)
        one-more before after cost others bits sum counts = omega arith

    node-is : (space : FormSpace) (node : ListedNode) → slice_get form.spaces t ≡ Some space → slice_get space.listing.nodes i ≡ Some node →
        node_at at.space.listing.nodes i ≡ node
    node-is space node at_space at_node =
        get_or_from_slice_get at.space.listing.nodes i node (record { track = 0; low = Leaf 0; high = Leaf 0 })
        (ap (λ (p : FormSpace). slice_get p.listing.nodes i) (same-space (slice_get form.spaces t) at.space space at.at at_space) ∙ at_node)

  -- where the function of two classes begins
  cell-at : (t r c at : ℕ) (u v : Weight) (space : FormSpace) (listed : Listed) → slice_get form.spaces t ≡ Some space →
      slice_get space.cells (r * space.width + c) ≡ Some at → slice_get space.listing.roots at ≡ Some listed →
      IsClassAt form ts space.children.0 space.rows r u → IsClassAt form ts space.children.1 space.columns c v →
      IsListedAt form ts t listed (with_node (together u v))
  cell-at t r c at u v space listed at_space at_cell at_root of_row of_column =
      let l = of_row.state in
      let k = of_column.state in
      let place : cell_in space l k ≡ at =
      ap (λ (x : ℕ). slice_index space.cells (x * space.width + slice_index space.columns k)) (class-is space.rows l r of_row.of_class)
      ∙ ap (λ (x : ℕ). slice_index space.cells (r * space.width + x)) (class-is space.columns k c of_column.of_class)
      ∙ class-is space.cells (r * space.width + c) at at_cell in
      let is_root : root_in space at ≡ listed = get_or_from_slice_get space.listing.roots at listed (Leaf 0) at_root in
      let root : root_in space (cell_in space l k) ≡ listed = ap (root_in space) place ∙ is_root in
      let is_empty = label_weight-none ts empty_label (λ x. refl) in
      record {
        space = space;
        at = at_space;
        at_left = l;
        at_right = k;
        left_weight = u;
        right_weight = v;
        of_left = subst (λ (s : ℕ). IsStateAt form ts s l u) (sym (left-at form t space at_space)) of_row.attained;
        of_right = subst (λ (s : ℕ). IsStateAt form ts s k v) (sym (right-at form t space at_space)) of_column.attained;
        within = subst (IsIn space.listing.nodes) is_root
            ((is_form.spaces t space at_space).inside at (slice_get_within space.listing.roots at listed at_root));
        first = 0;
        label = empty_label;
        asks = asks-none space.listing.nodes listed;
        unset = λ x above. refl;
        gives = λ m same. ap (λ (x : Listed). function_in space.listing.nodes x m) root;
        bits = no-label (label_weight ts empty_label) (u.bits + v.bits) is_empty;
        counts = refl;
      }
    where
      no-label : (label bits : ℕ) → label ≡ 0 → bits_counted (label + bits) ≡ bits_counted bits
      no-label label bits empty = omega arith

      asks-none : (listing : List ListedNode) (x : Listed) → AsksNoneBelow listing 0 x
      asks-none listing (Leaf p) = tt
      asks-none listing (Inner i) = omega arith

  rule-attained : (premises : List Goal) (cost : Weight → Weight) (goal : Goal) (reason : Reason) (total : Weight) →
      Rule form (is_among tracks) premises cost goal reason → AreAttained form ts premises total → IsAttained form ts goal (cost total)
  rule-attained _ _ _ _ total (initial s space at) are =
      subst (IsStateAt form ts s space.initial) are (record {
        inside = is-space s space at;
        depth = 0;
        assignment = empty_assignment;
        covers = Covers-empty;
        is_value = initial-form form s ∙ initial-at form s space at;
        nodes = 0;
        tree = none empty_assignment Covers-empty;
        bits = refl;
        counts = refl;
      })
  rule-attained _ _ _ _ total (row t q class space at at_class) are = (
    space,
    at,
    record {
      state = q;
      of_class = at_class;
      attained = subst (IsStateAt form ts space.children.0 q) (one-weight are.0 are.1 total are.3 are.4) are.2;
    },
  )
  rule-attained _ _ _ _ total (column t q class space at at_class) are = (
    space,
    at,
    record {
      state = q;
      of_class = at_class;
      attained = subst (IsStateAt form ts space.children.1 q) (one-weight are.0 are.1 total are.3 are.4) are.2;
    },
  )
  rule-attained _ _ _ _ total (cell t r c at space listed at_space at_cell at_root) are =
      let u = are.0 in
      let v = are.3.0 in
      let of_row : IsClassAt form ts space.children.0 space.rows r u =
      subst (λ (p : FormSpace). IsClassAt form ts p.children.0 p.rows r u)
      (same-space (slice_get form.spaces t) are.2.0 space are.2.1 at_space) are.2.2 in
      let of_column : IsClassAt form ts space.children.1 space.columns c v =
      subst (λ (p : FormSpace). IsClassAt form ts p.children.1 p.columns c v)
      (same-space (slice_get form.spaces t) are.3.2.0 space are.3.2.1 at_space) are.3.2.2 in
      let sum : together u v ≡ total = ap (together u) (one-weight v are.3.1 are.1 are.3.3 are.3.4) ∙ are.4 in
      subst (λ (x : Weight). IsAttained form ts (goal_at t listed) (with_node x)) sum
      (listed-goal t listed (with_node (together u v))
      (cell-at t r c at u v space listed at_space at_cell at_root of_row of_column))
  rule-attained _ _ _ _ total (low t i space node at_space at) are =
      let is_node = node-is t i are.0 are.2 space node at_space at in
      let same = one-weight are.0 are.1 total are.3 are.4 in
      subst (IsAttained form ts (goal_at t node.low)) same
      (subst (λ (n : ListedNode). IsAttained form ts (goal_at t n.low) are.0) is_node
      (listed-goal t (node_at are.2.space.listing.nodes i).low are.0 (side-low t i are.0 are.2)))
  rule-attained _ _ _ _ total (high t i space node at_space at) are =
      let is_node = node-is t i are.0 are.2 space node at_space at in
      let same = one-weight are.0 are.1 total are.3 are.4 in
      subst (λ (x : Weight). IsAttained form ts (goal_at t node.high) (with_bits (bit_cost (is_among tracks) node.track) x)) same
      (subst (λ (n : ListedNode). IsAttained form ts (goal_at t n.high) (with_bits (bit_cost (is_among tracks) n.track) are.0)) is_node
      (listed-goal t (node_at are.2.space.listing.nodes i).high
      (with_bits (bit_cost (is_among tracks) (node_at are.2.space.listing.nodes i).track) are.0) (side-high t i are.0 are.2)))

  attained : (goals : List Goal) (w : Weight) → Derives form (is_among tracks) goals w → AreAttained form ts goals w
  attained _ _ no_goals = refl
  attained _ _ (by_rule premises goals cost goal reason total v rule of_premises of_goals) = (
    cost total,
    v,
    rule-attained premises cost goal reason total rule (attained premises total of_premises),
    attained goals v of_goals,
    refl,
  )

  pub derived-attained : (goal : Goal) (w : Weight) → IsDerived form (is_among tracks) goal w → IsAttained form ts goal w
  derived-attained goal w d =
      subst (IsAttained form ts goal) d.weighs_so
      (rule-attained d.premises d.cost goal d.reason d.total d.rule (attained d.premises d.total d.derives))

  -- bits are counted
  pub attained-bits : (goal : Goal) (w : Weight) → IsAttained form ts goal w → w.bits ≤ 18446744073709551615
  attained-bits (State s q) w at = let e = at.bits in omega arith
  attained-bits (Node s i) w at = let e = at.bits in omega arith
  attained-bits (Row t class) w at = let e = at.2.attained.bits in omega arith
  attained-bits (Column t class) w at = let e = at.2.attained.bits in omega arith
