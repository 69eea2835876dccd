-- The way up from a state to the classes whose function gives it.
use Rattle.std.proofs.Common.{◌≡◌, ◌≢◌, ℕ, suc, ◌+◌, ◌*◌, ◌<◌, ◌≤◌, Bool, true, false, eqb, ◌||◌, List, [], ◌∷◌, ◌++◌, Option, Some, None, inl, inr}
use Rattle.std.proofs.Common.{refl, sym, ap, subst, ◌∙◌, arith, slice_get, length, if◌then◌else◌, eqb-true, eq-eqb, ne_eqb}
use Rattle.std.specs.Prelude.{MatchOption, slice_index}
use Rattle.std.proofs.lemmas.Bool.{false≢true, cases_Bool}
use Rattle.std.proofs.lemmas.Option.{slice_get_within, get_or_from_slice_get}
use Rattle.bdd_list.specs.declared.listing.Listed.{Listed}
use Rattle.bdd_list.specs.declared.listing.Listed.TheVariants.{Leaf, Inner}
use Rattle.bdd_list.specs.declared.listing.ListedNode.{ListedNode}
use Rattle.bdd_list.specs.Listing.{function_of, function_in, node_at, rank, first_track, AsksNoneBelow, AreOrdered}
use Rattle.bdd_list.proofs.ListingLemmas.{function_in-leaf, function_in-inner, function_in-unasked}
use Rattle.gta_theory.specs.Weights.{label_weight}
use Rattle.gta_theory.specs.Guides.{left, right}
use Rattle.ws2s_core.specs.declared.track.Track.{Track}
use Rattle.ws2s_theory.specs.Trees.{label_of}
use Rattle.gta_reach.specs.declared.form.FormSpace.{FormSpace}
use Rattle.gta_reach.specs.declared.form.Form.{Form}
use Rattle.gta_reach.specs.Form.{guide_of, automaton_of, cell_in, root_in}
use Rattle.gta_reach.proofs.ReachLemmas.{left-at, right-at, initial-at, initial-form, step-at}
use Rattle.gta_witness.specs.declared.goal.Goal.{Goal}
use Rattle.gta_witness.specs.declared.goal.Goal.TheVariants.{State, Node, Row, Column}
use Rattle.gta_witness.specs.declared.goal.Weight.{Weight}
use Rattle.gta_witness.specs.declared.goal.Reason.{Reason}
use Rattle.gta_witness.specs.declared.goal.Reason.TheVariants.{Initial, Member, Cell, Side}
use Rattle.gta_witness.specs.Lightest.{is_among, each_once}
use Rattle.gta_witness.specs.Rules.{Rule, initial, row, column, cell, low, high, goal_at, bit_cost, nothing, together, bits_counted, with_node, with_bits}
use Rattle.gta_witness.specs.Searching.{Findings, IsSettled, Totals, IsJustified}
use Rattle.gta_witness.specs.Reading.{IsReadable, HasReason, nodes_in, above_in, IsStepTo, AddsTrack, Climbs}
use Rattle.gta_witness.proofs.SearchLemmas.{settled-entry, one-premise}
use Rattle.gta_witness.proofs.WeighingLemmas.{label_weight-none, label_weight-more}

one-space : (o : Option FormSpace) (x y : FormSpace) → o ≡ Some x → o ≡ Some y → x ≡ y
one-space o x y one other = let e : Some x ≡ Some y = sym one ∙ other in cc

-- the label of tracks with one more
label_of-more : (tracks : List Track) (x : Track) (t : ℕ) → label_of (tracks ++ x ∷ []) t ≡ label_of tracks t || eqb x.0 t
label_of-more [] x t = elim (cases_Bool (eqb x.0 t)) [
  | inl here ↦ ap (λ (b : Bool). b || false) here ∙ sym here
  | inr apart ↦ ap (λ (b : Bool). b || false) apart ∙ sym apart
]
label_of-more (y ∷ ys) x t = elim (cases_Bool (eqb y.0 t)) [
  | inl here ↦ ap (λ (b : Bool). b || label_of (ys ++ x ∷ []) t) here ∙ sym (ap (λ (b : Bool). (b || label_of ys t) || eqb x.0 t) here)
  | inr apart ↦ ap (λ (b : Bool). b || label_of (ys ++ x ∷ []) t) apart ∙ label_of-more ys x t ∙ sym
      (ap (λ (b : Bool). (b || label_of ys t) || eqb x.0 t) apart)
]

pub goal_at-same : (s t : ℕ) (x y : Listed) → goal_at s x ≡ goal_at t y → (s ≡ t) × (x ≡ y)
goal_at-same s t (Leaf q) (Leaf p) e = (cc, let f : q ≡ p = cc in ap Leaf f)
goal_at-same s t (Inner i) (Inner j) e = (cc, let f : i ≡ j = cc in ap Inner f)
goal_at-same s t (Leaf q) (Inner j) e = absurd cc
goal_at-same s t (Inner i) (Leaf p) e = absurd cc

node-is : (nodes : List ListedNode) (i : ℕ) (node : ListedNode) → slice_get nodes i ≡ Some node → node_at nodes i ≡ node
node-is nodes i node at = get_or_from_slice_get nodes i node (record { track = 0; low = Leaf 0; high = Leaf 0 }) at

no-bits : (w : Weight) → w.bits ≤ 18446744073709551615 → with_bits 0 w ≡ w
no-bits w within = let bits : bits_counted (0 + w.bits) ≡ w.bits = omega arith in λ i. record { bits = bits i; nodes = w.nodes }

more-bits : (k i j : ℕ) (w : Weight) → k ≡ i + j → with_bits k w ≡ with_bits j (with_bits i w)
more-bits k i j w sum =
    let bits : bits_counted (k + w.bits) ≡ bits_counted (j + bits_counted (i + w.bits)) = omega arith in
    λ n. record { bits = bits n; nodes = w.nodes }

module _ (form : Form) (tracks : List Track) (found : Findings) (readable : IsReadable form tracks found) where
  -- at the state
  pub Climbs-first : (s q : ℕ) (w : Weight) (space : FormSpace) → slice_get form.spaces s ≡ Some space → IsSettled found (State s q) w →
      Climbs form tracks found s q w (State s q) []
  Climbs-first s q w space at settled = record {
    space = space;
    at_space = at;
    listed = Leaf q;
    is_goal = refl;
    inside = omega arith;
    gives = function_in-leaf space.listing.nodes q (label_of []);
    above = λ t e. absurd (false≢true e);
    weight = w;
    settled = settled;
    is_sum = ap (λ (k : ℕ). with_bits k w) (label_weight-none (each_once tracks) (label_of []) (λ t. refl))
        ∙ no-bits w (readable.counted (State s q) w settled);
  }

  -- a state that is settled is of a space
  pub has-space : (s q : ℕ) (w : Weight) → IsSettled found (State s q) w → (space : FormSpace) × (slice_get form.spaces s ≡ Some space)
  has-space s q w settled = let j = readable.justified (State s q) settled.entry settled.there in pick j.premises j.cost (State s q)
      settled.entry.reason j.rule refl
    where
      listed-space : (t : ℕ) (space : FormSpace) (x : Listed) → slice_get form.spaces t ≡ Some space → goal_at t x ≡ State s q →
          (space : FormSpace) × (slice_get form.spaces s ≡ Some space)
      listed-space t space (Leaf p) at e = let is : t ≡ s = cc in (space, ap (slice_get form.spaces) (sym is) ∙ at)
      listed-space t space (Inner i) at e = absurd cc

      pick : (premises : List Goal) (cost : Weight → Weight) (goal : Goal) (reason : Reason) → Rule form (is_among tracks) premises cost goal reason →
          goal ≡ State s q → (space : FormSpace) × (slice_get form.spaces s ≡ Some space)
      pick _ _ _ _ (initial t space at) e = let is : t ≡ s = cc in (space, ap (slice_get form.spaces) (sym is) ∙ at)
      pick _ _ _ _ (row t q' class space at at_class) e = absurd cc
      pick _ _ _ _ (column t q' class space at at_class) e = absurd cc
      pick _ _ _ _ (cell t r c at space listed at_space at_cell at_root) e = listed-space t space listed at_space e
      pick _ _ _ _ (low t i space node at_space at) e = listed-space t space node.low at_space e
      pick _ _ _ _ (high t i space node at_space at) e = listed-space t space node.high at_space e

  module _ (s q : ℕ) (w : Weight) (goal : Goal) (taken : List Track) (climbs : Climbs form tracks found s q w goal taken) where
    nodes : List ListedNode
    nodes = climbs.space.listing.nodes

    ordered : AreOrdered nodes
    unfolding nodes
    ordered = (readable.is_form.spaces s climbs.space climbs.at_space).ordered

    pub justified-by : (reason : Reason) → HasReason found goal reason → IsJustified form (is_among tracks) found goal reason climbs.weight
    justified-by reason has =
        let j = readable.justified goal has.entry has.there in
        let e = (settled-entry found goal climbs.weight has.entry climbs.settled has.there).1 in
        subst (IsJustified form (is_among tracks) found goal reason) e
        (subst (λ (r : Reason). IsJustified form (is_among tracks) found goal r has.entry.weight) has.is_reason j)

    -- a side asks later tracks than its node
    unset-below : (track t : ℕ) (x : Listed) → x ≡ climbs.listed → AsksNoneBelow nodes (suc track) x → label_of taken t ≡ true → suc track ≤ t
    unfolding nodes
    unset-below track t x is asks set =
        pick (first_track climbs.space.listing.nodes climbs.listed)
        (subst (λ (y : Listed). AsksNoneBelow climbs.space.listing.nodes (suc track) y) is asks) (climbs.above t set)
      where
        pick : (o : Option ℕ) → MatchOption o (Unit {0}) (λ first. suc track ≤ first) → MatchOption o ⊥ (λ first. first ≤ t) → suc track ≤ t
        pick None later below = absurd below
        pick (Some first) later below = omega arith

    unset-at : (track : ℕ) (x : Listed) → x ≡ climbs.listed → AsksNoneBelow nodes (suc track) x → label_of taken track ≡ false
    unset-at track x is asks = elim (cases_Bool (label_of taken track)) [
      | inl set ↦ absurd (let b = unset-below track track x is asks set in omega arith)
      | inr unset ↦ unset
    ]

    -- from a low side to its node
    pub Climbs-low : (i : ℕ) → HasReason found goal (Side i false) → Climbs form tracks found s q w (Node s i) taken
    unfolding nodes
    Climbs-low i has = let j = justified-by (Side i false) has in pick j.premises j.cost goal (Side i false) j.total j.rule j.totals refl refl
        (let e = j.weighs_so in e)
      where
        pick : (premises : List Goal) (cost : Weight → Weight) (g : Goal) (reason : Reason) (total : Weight) →
            Rule form (is_among tracks) premises cost g reason →
            Totals found premises total → g ≡ goal → reason ≡ Side i false → cost total ≡ climbs.weight → Climbs form tracks found s q w (Node s i) taken
        pick _ _ _ _ total (initial t space at) totals e r sum = absurd cc
        pick _ _ _ _ total (row t q' class space at at_class) totals e r sum = absurd cc
        pick _ _ _ _ total (column t q' class space at at_class) totals e r sum = absurd cc
        pick _ _ _ _ total (cell t k c at space listed at_space at_cell at_root) totals e r sum = absurd cc
        pick _ _ _ _ total (high t k space node at_space at) totals e r sum = absurd (let f : true ≡ false = cc in false≢true (sym f))
        pick _ _ _ _ total (low t k space node at_space at) totals e r sum =
            let same = goal_at-same t s node.low climbs.listed (e ∙ climbs.is_goal) in
            let is_k : k ≡ i = cc in
            let is_space : climbs.space ≡ space = one-space (slice_get form.spaces s) climbs.space space climbs.at_space
            (ap (slice_get form.spaces) (sym same.0) ∙ at_space) in
            let at_i : slice_get climbs.space.listing.nodes i ≡ Some node =
            ap (λ (p : FormSpace). slice_get p.listing.nodes i) is_space ∙ ap (slice_get space.listing.nodes) (sym is_k) ∙ at in
            let inside : i < length climbs.space.listing.nodes = slice_get_within climbs.space.listing.nodes i node at_i in
            let is_node = node-is climbs.space.listing.nodes i node at_i in
            let below = ordered.low i inside in
            let above = ordered.high i inside in
            let is_low : (node_at climbs.space.listing.nodes i).low ≡ climbs.listed = ap (λ (n : ListedNode). n.low) is_node ∙ same.1 in
            let unset = unset-at (node_at climbs.space.listing.nodes i).track (node_at climbs.space.listing.nodes i).low is_low below.later in
            let premise : IsSettled found (Node s i) totals.0 =
            subst (λ (x : ℕ). IsSettled found (Node x i) totals.0) same.0 (subst (λ (x : ℕ). IsSettled found (Node t x) totals.0) is_k totals.2) in
            record {
              space = climbs.space;
              at_space = climbs.at_space;
              listed = Inner i;
              is_goal = refl;
              inside = omega arith;
              gives = function_in-inner climbs.space.listing.nodes i (label_of taken) inside below.before above.before
                  ∙ ap (λ (b : Bool). if b then function_in climbs.space.listing.nodes (node_at climbs.space.listing.nodes i).high (label_of taken)
                  else function_in climbs.space.listing.nodes (node_at climbs.space.listing.nodes i).low (label_of taken)) unset
                  ∙ ap (λ (x : Listed). function_in climbs.space.listing.nodes x (label_of taken)) is_low ∙ climbs.gives;
              above = λ u set. let b = unset-below (node_at climbs.space.listing.nodes i).track u (node_at climbs.space.listing.nodes i).low is_low
                  below.later set in omega arith;
              weight = totals.0;
              settled = premise;
              is_sum = ap (with_bits (label_weight (each_once tracks) (label_of taken))) (one-premise found (Node t k) total totals ∙ sum) ∙ climbs.is_sum;
            }

    -- from a high side to its node
    pub Climbs-high : (i : ℕ) (space' : FormSpace) (node' : ListedNode) → slice_get form.spaces s ≡ Some space' → slice_get space'.listing.nodes i ≡
        Some node' →
        HasReason found goal (Side i true) → Climbs form tracks found s q w (Node s i) (taken ++ (record { 0 = node'.track }) ∷ [])
    unfolding nodes
    Climbs-high i space' node' at_space' at' has =
        let j = justified-by (Side i true) has in pick j.premises j.cost goal (Side i true) j.total j.rule j.totals refl refl (let e = j.weighs_so in e)
      where
        pick : (premises : List Goal) (cost : Weight → Weight) (g : Goal) (reason : Reason) (total : Weight) →
            Rule form (is_among tracks) premises cost g reason →
            Totals found premises total → g ≡ goal → reason ≡ Side i true → cost total ≡ climbs.weight →
            Climbs form tracks found s q w (Node s i) (taken ++ (record { 0 = node'.track }) ∷ [])
        pick _ _ _ _ total (initial t space at) totals e r sum = absurd cc
        pick _ _ _ _ total (row t q' class space at at_class) totals e r sum = absurd cc
        pick _ _ _ _ total (column t q' class space at at_class) totals e r sum = absurd cc
        pick _ _ _ _ total (cell t k c at space listed at_space at_cell at_root) totals e r sum = absurd cc
        pick _ _ _ _ total (low t k space node at_space at) totals e r sum = absurd (let f : false ≡ true = cc in false≢true f)
        pick _ _ _ _ total (high t k space node at_space at) totals e r sum =
            let same = goal_at-same t s node.high climbs.listed (e ∙ climbs.is_goal) in
            let is_k : k ≡ i = cc in
            let is_space : climbs.space ≡ space = one-space (slice_get form.spaces s) climbs.space space climbs.at_space
            (ap (slice_get form.spaces) (sym same.0) ∙ at_space) in
            let at_i : slice_get climbs.space.listing.nodes i ≡ Some node =
            ap (λ (p : FormSpace). slice_get p.listing.nodes i) is_space ∙ ap (slice_get space.listing.nodes) (sym is_k) ∙ at in
            let is_other : climbs.space ≡ space' = one-space (slice_get form.spaces s) climbs.space space' climbs.at_space at_space' in
            let other : node ≡ node' = (let f : Some node ≡ Some node' = sym at_i ∙ ap (λ (p : FormSpace). slice_get p.listing.nodes i) is_other ∙ at' in cc) in
            let inside : i < length climbs.space.listing.nodes = slice_get_within climbs.space.listing.nodes i node at_i in
            let is_node = node-is climbs.space.listing.nodes i node at_i in
            let track : (node_at climbs.space.listing.nodes i).track ≡ node'.track = ap (λ (n : ListedNode). n.track) (is_node ∙ other) in
            let below = ordered.low i inside in
            let above = ordered.high i inside in
            let is_high : (node_at climbs.space.listing.nodes i).high ≡ climbs.listed = ap (λ (n : ListedNode). n.high) is_node ∙ same.1 in
            let later : AsksNoneBelow climbs.space.listing.nodes (suc node'.track) (node_at climbs.space.listing.nodes i).high =
            subst (λ (x : ℕ). AsksNoneBelow climbs.space.listing.nodes (suc x) (node_at climbs.space.listing.nodes i).high) track above.later in
            let unset = unset-at node'.track (node_at climbs.space.listing.nodes i).high is_high later in
            let grown : (u : ℕ) → label_of (taken ++ (record { 0 = node'.track }) ∷ []) u ≡ label_of taken u || eqb node'.track u =
            label_of-more taken (record { 0 = node'.track }) in
            let set : label_of (taken ++ (record { 0 = node'.track }) ∷ []) node'.track ≡ true =
            grown node'.track ∙ ap (λ (b : Bool). b || eqb node'.track node'.track) unset ∙ eq-eqb node'.track node'.track refl in
            let apart : (u : ℕ) → u ≢ node'.track → label_of (taken ++ (record { 0 = node'.track }) ∷ []) u ≡ label_of taken u =
            λ u differs. grown u ∙ ap (λ (b : Bool). label_of taken u || b) (ne_eqb node'.track u (λ f. differs (sym f))) ∙ or-no (label_of taken u) in
            let premise : IsSettled found (Node s i) totals.0 =
            subst (λ (x : ℕ). IsSettled found (Node x i) totals.0) same.0 (subst (λ (x : ℕ). IsSettled found (Node t x) totals.0) is_k totals.2) in
            let bit : bit_cost (is_among tracks) node.track ≡ bit_cost (is_among tracks) node'.track = ap
            (λ (n : ListedNode). bit_cost (is_among tracks) n.track) other in
            let more = label_weight-more tracks node'.track (label_of taken) (label_of (taken ++ (record { 0 = node'.track }) ∷ [])) unset set apart in
            record {
              space = climbs.space;
              at_space = climbs.at_space;
              listed = Inner i;
              is_goal = refl;
              inside = omega arith;
              gives = function_in-inner climbs.space.listing.nodes i (label_of (taken ++ (record { 0 = node'.track }) ∷ [])) inside below.before above.before
                  ∙ ap (λ (b : Bool). if b then function_in climbs.space.listing.nodes (node_at climbs.space.listing.nodes i).high
                  (label_of (taken ++ (record { 0 = node'.track }) ∷ []))
                  else function_in climbs.space.listing.nodes (node_at climbs.space.listing.nodes i).low
                  (label_of (taken ++ (record { 0 = node'.track }) ∷ [])))
                  (ap (label_of (taken ++ (record { 0 = node'.track }) ∷ [])) track ∙ set)
                  ∙ ap (λ (x : Listed). function_in climbs.space.listing.nodes x (label_of (taken ++ (record { 0 = node'.track }) ∷ []))) is_high
                  ∙ function_in-unasked climbs.space.listing.nodes ordered climbs.listed (suc node'.track)
                  (label_of (taken ++ (record { 0 = node'.track }) ∷ [])) (label_of taken)
                  climbs.inside (subst (λ (x : Listed). AsksNoneBelow climbs.space.listing.nodes (suc node'.track) x) is_high later)
                  (λ u from. apart u (λ f. absurd (omega arith)))
                  ∙ climbs.gives;
              above = λ u is_set. elim (cases_Bool (label_of taken u)) [
                | inl before ↦ let b = unset-below node'.track u (node_at climbs.space.listing.nodes i).high is_high later before in omega arith
                | inr not ↦
                    let is : eqb node'.track u ≡ true = sym (ap (λ (b : Bool). b || eqb node'.track u) not) ∙ sym (grown u) ∙ is_set in
                    let f = eqb-true node'.track u is in
                    omega arith
              ];
              weight = totals.0;
              settled = premise;
              is_sum = more-bits (label_weight (each_once tracks) (label_of (taken ++ (record { 0 = node'.track }) ∷ [])))
                  (bit_cost (is_among tracks) node.track) (label_weight (each_once tracks) (label_of taken)) totals.0 (omega arith)
                  ∙ ap (λ (x : Weight). with_bits (label_weight (each_once tracks) (label_of taken)) (with_bits (bit_cost (is_among tracks) node.track) x))
                  (one-premise found (Node t k) total totals)
                  ∙ ap (with_bits (label_weight (each_once tracks) (label_of taken))) sum ∙ climbs.is_sum;
            }
          where
            or-no : (b : Bool) → b || false ≡ b
            or-no true = refl
            or-no false = refl

    -- a node stands after its sides
    pub side-before : (i : ℕ) (is_high : Bool) → HasReason found goal (Side i is_high) →
        (rank climbs.listed ≤ i) × (i < length climbs.space.listing.nodes)
    unfolding nodes
    side-before i is_high has = let j = justified-by (Side i is_high) has in pick j.premises j.cost goal (Side i is_high) j.rule refl refl
      where
        node-in : (t k : ℕ) (space : FormSpace) (node : ListedNode) → slice_get form.spaces t ≡ Some space →
            slice_get space.listing.nodes k ≡ Some node → t ≡ s → k ≡ i → slice_get climbs.space.listing.nodes i ≡ Some node
        node-in t k space node at_space at is_s is_i =
            let is_space : climbs.space ≡ space = one-space (slice_get form.spaces s) climbs.space space climbs.at_space
            (ap (slice_get form.spaces) (sym is_s) ∙ at_space) in
            ap (λ (p : FormSpace). slice_get p.listing.nodes i) is_space ∙ ap (slice_get space.listing.nodes) (sym is_i) ∙ at

        pick : (premises : List Goal) (cost : Weight → Weight) (g : Goal) (reason : Reason) → Rule form (is_among tracks) premises cost g reason →
            g ≡ goal → reason ≡ Side i is_high → (rank climbs.listed ≤ i) × (i < length climbs.space.listing.nodes)
        pick _ _ _ _ (initial t space at) e r = absurd cc
        pick _ _ _ _ (row t q' class space at at_class) e r = absurd cc
        pick _ _ _ _ (column t q' class space at at_class) e r = absurd cc
        pick _ _ _ _ (cell t k c at space listed at_space at_cell at_root) e r = absurd cc
        pick _ _ _ _ (low t k space node at_space at) e r =
            let same = goal_at-same t s node.low climbs.listed (e ∙ climbs.is_goal) in
            let is_k : k ≡ i = cc in
            let at_i = node-in t k space node at_space at same.0 is_k in
            let inside : i < length climbs.space.listing.nodes = slice_get_within climbs.space.listing.nodes i node at_i in
            let is_side : (node_at climbs.space.listing.nodes i).low ≡ climbs.listed =
            ap (λ (n : ListedNode). n.low) (node-is climbs.space.listing.nodes i node at_i) ∙ same.1 in
            (subst (λ (x : Listed). rank x ≤ i) is_side (ordered.low i inside).before, inside)
        pick _ _ _ _ (high t k space node at_space at) e r =
            let same = goal_at-same t s node.high climbs.listed (e ∙ climbs.is_goal) in
            let is_k : k ≡ i = cc in
            let at_i = node-in t k space node at_space at same.0 is_k in
            let inside : i < length climbs.space.listing.nodes = slice_get_within climbs.space.listing.nodes i node at_i in
            let is_side : (node_at climbs.space.listing.nodes i).high ≡ climbs.listed =
            ap (λ (n : ListedNode). n.high) (node-is climbs.space.listing.nodes i node at_i) ∙ same.1 in
            (subst (λ (x : Listed). rank x ≤ i) is_side (ordered.high i inside).before, inside)

    pub fewer-above : (i : ℕ) (is_high : Bool) → HasReason found goal (Side i is_high) →
        above_in (nodes_in (slice_get form.spaces s)) (Node s i) < above_in (nodes_in (slice_get form.spaces s)) goal
    fewer-above i is_high has =
        let before = side-before i is_high has in
        let many : length climbs.space.listing.nodes ≡ nodes_in (slice_get form.spaces s) = sym (ap nodes_in climbs.at_space) in
        subst (λ (x : Goal). above_in (nodes_in (slice_get form.spaces s)) (Node s i) < above_in (nodes_in (slice_get form.spaces s)) x)
        (sym climbs.is_goal) (fewer (nodes_in (slice_get form.spaces s)) climbs.listed before.0 (subst (λ (n : ℕ). i < n) many before.1))
      where
        fewer : (many : ℕ) (x : Listed) → rank x ≤ i → i < many → above_in many (Node s i) < above_in many (goal_at s x)
        fewer many (Leaf p) after inside = omega arith
        fewer many (Inner j) after inside = omega arith

    -- at the initial state
    pub initial-step : HasReason found goal Initial → ((automaton_of form).initial s ≡ q) × (nothing ≡ w)
    initial-step has = let j = justified-by Initial has in pick j.premises j.cost goal Initial j.total j.rule j.totals refl refl (let e = j.weighs_so in e)
      where
        no-tracks : (x : Listed) (p : ℕ) → climbs.listed ≡ x → x ≡ Leaf p → (t : ℕ) → label_of taken t ≡ false
        no-tracks x p is leaf t = elim (cases_Bool (label_of taken t)) [
          | inl set ↦ absurd (subst (λ (y : Listed). MatchOption (first_track climbs.space.listing.nodes y) ⊥ (λ first. first ≤ t)) (is ∙ leaf)
              (climbs.above t set))
          | inr unset ↦ unset
        ]

        leaf-is : (t p : ℕ) (x : Listed) → State t p ≡ goal_at s x → (t ≡ s) × (x ≡ Leaf p)
        leaf-is t p x e = goal_at-leaf x e
          where
            goal_at-leaf : (x : Listed) → State t p ≡ goal_at s x → (t ≡ s) × (x ≡ Leaf p)
            goal_at-leaf (Leaf o) e = (cc, let f : o ≡ p = cc in ap Leaf f)
            goal_at-leaf (Inner i) e = absurd cc

        pick : (premises : List Goal) (cost : Weight → Weight) (g : Goal) (reason : Reason) (total : Weight) →
            Rule form (is_among tracks) premises cost g reason →
            Totals found premises total → g ≡ goal → reason ≡ Initial → cost total ≡ climbs.weight → ((automaton_of form).initial s ≡ q) × (nothing ≡ w)
        pick _ _ _ _ total (initial t space at) totals e r sum =
            let same = leaf-is t space.initial climbs.listed (e ∙ climbs.is_goal) in
            let is_space : climbs.space ≡ space = one-space (slice_get form.spaces s) climbs.space space climbs.at_space
            (ap (slice_get form.spaces) (sym same.0) ∙ at) in
            let gives : space.initial ≡ q = sym (function_in-leaf climbs.space.listing.nodes space.initial (label_of taken))
            ∙ ap (λ (x : Listed). function_in climbs.space.listing.nodes x (label_of taken)) (sym same.1) ∙ climbs.gives in
            let first : (automaton_of form).initial s ≡ space.initial = initial-form form s ∙ initial-at form s space
            (ap (slice_get form.spaces) (sym same.0) ∙ at) in
            let none = label_weight-none (each_once tracks) (label_of taken) (no-tracks climbs.listed space.initial refl same.1) in (
              first ∙ gives,
              totals ∙ sum ∙ sym (no-bits climbs.weight (readable.counted goal climbs.weight climbs.settled))
                  ∙ sym (ap (λ (k : ℕ). with_bits k climbs.weight) none) ∙ climbs.is_sum,
            )
        pick _ _ _ _ total (row t q' class space at at_class) totals e r sum = absurd cc
        pick _ _ _ _ total (column t q' class space at at_class) totals e r sum = absurd cc
        pick _ _ _ _ total (cell t k c at space listed at_space at_cell at_root) totals e r sum = absurd cc
        pick _ _ _ _ total (low t k space node at_space at) totals e r sum = absurd cc
        pick _ _ _ _ total (high t k space node at_space at) totals e r sum = absurd cc

  -- the state by which a class is settled
  member-row : (t class l : ℕ) (u : Weight) (space : FormSpace) → slice_get form.spaces t ≡ Some space → HasReason found (Row t class) (Member l) →
      IsSettled found (Row t class) u → (slice_get space.rows l ≡ Some class) × IsSettled found (State space.children.0 l) u
  member-row t class l u space at has settled =
      let j = readable.justified (Row t class) has.entry has.there in
      let e = (settled-entry found (Row t class) u has.entry settled has.there).1 in
      pick j.premises j.cost (Row t class) has.entry.reason j.total j.rule j.totals refl has.is_reason (j.weighs_so ∙ e)
    where
      other : (t' : ℕ) (x : Listed) → goal_at t' x ≡ Row t class → ⊥
      other t' (Leaf p) e = absurd cc
      other t' (Inner i) e = absurd cc

      pick : (premises : List Goal) (cost : Weight → Weight) (g : Goal) (reason : Reason) (total : Weight) →
          Rule form (is_among tracks) premises cost g reason →
          Totals found premises total → g ≡ Row t class → reason ≡ Member l → cost total ≡ u →
          (slice_get space.rows l ≡ Some class) × IsSettled found (State space.children.0 l) u
      pick _ _ _ _ total (initial t' space' at') totals e r sum = absurd cc
      pick _ _ _ _ total (row t' q' class' space' at' at_class) totals e r sum =
          let is_t : t' ≡ t = cc in
          let is_class : class' ≡ class = cc in
          let is_l : q' ≡ l = cc in
          let is_space : space' ≡ space = one-space (slice_get form.spaces t) space' space (ap (slice_get form.spaces) (sym is_t) ∙ at') at in
          let weight : totals.0 ≡ u = one-premise found _ total totals ∙ sum in (
            ap (λ (p : FormSpace). slice_get p.rows l) (sym is_space) ∙ ap (slice_get space'.rows) (sym is_l) ∙ at_class ∙ ap
                (λ (k : ℕ). let o : Option ℕ = Some k in o) is_class,
            subst (λ (k : Weight). IsSettled found (State space.children.0 l) k) weight
                (subst (λ (p : FormSpace). IsSettled found (State p.children.0 l) totals.0) is_space
                (subst (λ (k : ℕ). IsSettled found (State space'.children.0 k) totals.0) is_l totals.2)),
          )
      pick _ _ _ _ total (column t' q' class' space' at' at_class) totals e r sum = absurd cc
      pick _ _ _ _ total (cell t' k c at' space' listed at_space at_cell at_root) totals e r sum = absurd cc
      pick _ _ _ _ total (low t' k space' node at_space at') totals e r sum = absurd cc
      pick _ _ _ _ total (high t' k space' node at_space at') totals e r sum = absurd cc

  member-column : (t class l : ℕ) (u : Weight) (space : FormSpace) → slice_get form.spaces t ≡ Some space → HasReason found (Column t class) (Member l) →
      IsSettled found (Column t class) u → (slice_get space.columns l ≡ Some class) × IsSettled found (State space.children.1 l) u
  member-column t class l u space at has settled =
      let j = readable.justified (Column t class) has.entry has.there in
      let e = (settled-entry found (Column t class) u has.entry settled has.there).1 in
      pick j.premises j.cost (Column t class) has.entry.reason j.total j.rule j.totals refl has.is_reason (j.weighs_so ∙ e)
    where
      pick : (premises : List Goal) (cost : Weight → Weight) (g : Goal) (reason : Reason) (total : Weight) →
          Rule form (is_among tracks) premises cost g reason →
          Totals found premises total → g ≡ Column t class → reason ≡ Member l → cost total ≡ u →
          (slice_get space.columns l ≡ Some class) × IsSettled found (State space.children.1 l) u
      pick _ _ _ _ total (initial t' space' at') totals e r sum = absurd cc
      pick _ _ _ _ total (row t' q' class' space' at' at_class) totals e r sum = absurd cc
      pick _ _ _ _ total (column t' q' class' space' at' at_class) totals e r sum =
          let is_t : t' ≡ t = cc in
          let is_class : class' ≡ class = cc in
          let is_l : q' ≡ l = cc in
          let is_space : space' ≡ space = one-space (slice_get form.spaces t) space' space (ap (slice_get form.spaces) (sym is_t) ∙ at') at in
          let weight : totals.0 ≡ u = one-premise found _ total totals ∙ sum in (
            ap (λ (p : FormSpace). slice_get p.columns l) (sym is_space) ∙ ap (slice_get space'.columns) (sym is_l) ∙ at_class ∙ ap
                (λ (k : ℕ). let o : Option ℕ = Some k in o) is_class,
            subst (λ (k : Weight). IsSettled found (State space.children.1 l) k) weight
                (subst (λ (p : FormSpace). IsSettled found (State p.children.1 l) totals.0) is_space
                (subst (λ (k : ℕ). IsSettled found (State space'.children.1 k) totals.0) is_l totals.2)),
          )
      pick _ _ _ _ total (cell t' k c at' space' listed at_space at_cell at_root) totals e r sum = absurd cc
      pick _ _ _ _ total (low t' k space' node at_space at') totals e r sum = absurd cc
      pick _ _ _ _ total (high t' k space' node at_space at') totals e r sum = absurd cc

  index-is : (xs : List ℕ) (i x : ℕ) → slice_get xs i ≡ Some x → slice_index xs i ≡ x
  index-is xs i x at = get_or_from_slice_get xs i x 0 at

  -- at the function of two classes
  module _ (s q : ℕ) (w : Weight) (goal : Goal) (taken : List Track) (climbs : Climbs form tracks found s q w goal taken) where
    pub cell-step : (k c l r : ℕ) → HasReason found goal (Cell k c) → HasReason found (Row s k) (Member l) → HasReason found (Column s c) (Member r) →
        IsStepTo form (each_once tracks) found s q w (record { tracks = taken; left = l; right = r })
    cell-step k c l r has of_row of_column =
        let j = justified-by s q w goal taken climbs (Cell k c) has in pick j.premises j.cost goal (Cell k c) j.total j.rule j.totals refl refl
        (let e = j.weighs_so in e)
      where
        pick : (premises : List Goal) (cost : Weight → Weight) (g : Goal) (reason : Reason) (total : Weight) →
            Rule form (is_among tracks) premises cost g reason →
            Totals found premises total → g ≡ goal → reason ≡ Cell k c → cost total ≡ climbs.weight →
            IsStepTo form (each_once tracks) found s q w (record { tracks = taken; left = l; right = r })
        pick _ _ _ _ total (initial t space at) totals e is sum = absurd cc
        pick _ _ _ _ total (row t q' class space at at_class) totals e is sum = absurd cc
        pick _ _ _ _ total (column t q' class space at at_class) totals e is sum = absurd cc
        pick _ _ _ _ total (low t i space node at_space at) totals e is sum = absurd cc
        pick _ _ _ _ total (high t i space node at_space at) totals e is sum = absurd cc
        pick _ _ _ _ total (cell t k' c' at space listed at_space at_cell at_root) totals e is sum =
            let same = goal_at-same t s listed climbs.listed (e ∙ climbs.is_goal) in
            let is_k : k' ≡ k = cc in
            let is_c : c' ≡ c = cc in
            let here : slice_get form.spaces s ≡ Some space = ap (slice_get form.spaces) (sym same.0) ∙ at_space in
            let is_space : climbs.space ≡ space = one-space (slice_get form.spaces s) climbs.space space climbs.at_space here in
            let u = totals.0 in
            let v = totals.3.0 in
            let row_settled : IsSettled found (Row s k) u =
            subst (λ (x : ℕ). IsSettled found (Row x k) u) same.0 (subst (λ (x : ℕ). IsSettled found (Row t x) u) is_k totals.2) in
            let column_settled : IsSettled found (Column s c) v =
            subst (λ (x : ℕ). IsSettled found (Column x c) v) same.0 (subst (λ (x : ℕ). IsSettled found (Column t x) v) is_c totals.3.2) in
            let lefts = member-row s k l u space here of_row row_settled in
            let rights = member-column s c r v space here of_column column_settled in
            let place : cell_in space l r ≡ at =
            ap (λ (x : ℕ). slice_index space.cells (x * space.width + slice_index space.columns r)) (index-is space.rows l k lefts.0 ∙ sym is_k)
            ∙ ap (λ (x : ℕ). slice_index space.cells (k' * space.width + x)) (index-is space.columns r c rights.0 ∙ sym is_c)
            ∙ index-is space.cells (k' * space.width + c') at at_cell in
            let root : root_in space (cell_in space l r) ≡ climbs.listed =
            ap (root_in space) place ∙ get_or_from_slice_get space.listing.roots at listed (Leaf 0) at_root ∙ same.1 in
            let child_l : left (guide_of form) s ≡ space.children.0 = left-at form s space here in
            let child_r : right (guide_of form) s ≡ space.children.1 = right-at form s space here in
            record {
              left_weight = u;
              right_weight = v;
              of_left = subst (λ (x : ℕ). IsSettled found (State x l) u) (sym child_l) lefts.1;
              of_right = subst (λ (x : ℕ). IsSettled found (State x r) v) (sym child_r) rights.1;
              gives = step-at form s space here l r (label_of taken)
                  ∙ ap (λ (x : Listed). function_of space.listing x (label_of taken)) root
                  ∙ ap (λ (p : FormSpace). function_of p.listing climbs.listed (label_of taken)) (sym is_space) ∙ climbs.gives;
              is_sum = ap (λ (x : Weight). with_bits (label_weight (each_once tracks) (label_of taken)) (with_node (together u x)))
                  (one-premise found (Column t c') totals.1 totals.3)
                  ∙ ap (λ (x : Weight). with_bits (label_weight (each_once tracks) (label_of taken)) (with_node x)) totals.4
                  ∙ ap (with_bits (label_weight (each_once tracks) (label_of taken))) sum ∙ climbs.is_sum;
            }

  -- a side, low or high
  pub Climbs-side : (s q : ℕ) (w : Weight) (i : ℕ) (is_high : Bool) (goal : Goal) (taken new : List Track) → Climbs form tracks found s q w goal taken →
      HasReason found goal (Side i is_high) → AddsTrack form taken new s i is_high → Climbs form tracks found s q w (Node s i) new
  Climbs-side s q w i false goal taken new climbs has adds =
      subst (Climbs form tracks found s q w (Node s i)) (sym adds) (Climbs-low s q w goal taken climbs i has)
  Climbs-side s q w i true goal taken new climbs has adds =
      subst (Climbs form tracks found s q w (Node s i)) (sym adds.4) (Climbs-high s q w goal taken climbs i adds.0 adds.1 adds.2 adds.3 has)
