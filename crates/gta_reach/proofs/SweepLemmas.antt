-- What steps give is marked.
use Rattle.std.proofs.Common.{◌≡◌, ℕ, zero, suc, ◌+◌, ◌<◌, ◌≤◌, Bool, true, false, List, length, Some, inl, inr, if◌then◌else◌}
use Rattle.std.proofs.Common.{sym, ◌∙◌, ap, refl, subst, arith}
use Rattle.std.specs.Prelude.{slice_get, replicate}
use Rattle.std.proofs.lemmas.List.{get_or-set_other, length-set, length-replicate, get_or-replicate}
use Rattle.std.proofs.lemmas.Bool.{cases_eq, cases_lt, false≢true}
use Rattle.labels.specs.Labels.{Label, with_track}
use Rattle.labels.proofs.LabelsLemmas.{with_track-same, with_track-later}
use Rattle.bdd_list.specs.declared.listing.Listed.{Listed}
use Rattle.bdd_list.specs.declared.listing.Listed.TheVariants.{Leaf, Inner}
use Rattle.bdd_list.specs.Listing.{rank, function_in, function_of, node_at, IsIn, AreOrdered}
use Rattle.bdd_list.proofs.ListingLemmas.{function_in-leaf, function_in-inner, function_in-unasked}
use Rattle.gta_reach.specs.declared.form.FormSpace.{FormSpace}
use Rattle.gta_reach.specs.Form.{cell_in, root_in, step_in}
use Rattle.gta_classes.specs.Chosen.{is_marked, IsAmong}
use Rattle.gta_reach.specs.Reached.{with_node, with_state, HasRoot, IsGiven, IsSwept, Sweeps, Grown, IsTouched, AreSidesTouched}
use Rattle.gta_classes.proofs.ChosenLemmas.{marked-inside, marked-set_same, marked-set, marked-set_cases}

pub Grown-refl : (nodes states : List Bool) → Grown nodes states nodes states
Grown-refl nodes states = record {
  nodes_many = refl;
  states_many = refl;
  nodes_kept = λ i marked. marked;
  states_kept = λ q marked. marked;
}

pub Grown-trans : (a b c d e f : List Bool) → Grown a b c d → Grown c d e f → Grown a b e f
Grown-trans a b c d e f first second = record {
  nodes_many = second.nodes_many ∙ first.nodes_many;
  states_many = second.states_many ∙ first.states_many;
  nodes_kept = λ i marked. second.nodes_kept i (first.nodes_kept i marked);
  states_kept = λ q marked. second.states_kept q (first.states_kept q marked);
}

pub Grown-touch : (nodes states : List Bool) (listed : Listed) → Grown nodes states (with_node nodes listed) (with_state states listed)
Grown-touch nodes states (Leaf q) = record {
  nodes_many = refl;
  states_many = length-set states q true;
  nodes_kept = λ i marked. marked;
  states_kept = λ p marked. marked-set states q p marked;
}
Grown-touch nodes states (Inner i) = record {
  nodes_many = length-set nodes i true;
  states_many = refl;
  nodes_kept = λ j marked. marked-set nodes i j marked;
  states_kept = λ p marked. marked;
}

pub IsTouched-grown : (a b c d : List Bool) (listed : Listed) → Grown a b c d → IsTouched a b listed → IsTouched c d listed
IsTouched-grown a b c d (Leaf q) grown touched = λ inside. grown.states_kept q (touched (let e = grown.states_many in omega arith))
IsTouched-grown a b c d (Inner i) grown touched = λ inside. grown.nodes_kept i (touched (let e = grown.nodes_many in omega arith))

pub IsTouched-touch : (nodes states : List Bool) (listed : Listed) → IsTouched (with_node nodes listed) (with_state states listed) listed
IsTouched-touch nodes states (Leaf q) = λ inside. marked-set_same states q (let e = length-set states q true in omega arith)
IsTouched-touch nodes states (Inner i) = λ inside. marked-set_same nodes i (let e = length-set nodes i true in omega arith)

module _ (space : FormSpace) (lefts rights : List ℕ) (before : List Bool) where
  pub Sweeps-touch : (nodes states new_nodes new_states : List Bool) (more now : Bool) (listed : Listed) →
      new_nodes ≡ with_node nodes listed → new_states ≡ with_state states listed →
      (now ≡ false → (more ≡ false) × (new_states ≡ states)) →
      ((label : Label) → IsGiven space lefts rights (function_of space.listing listed label)) →
      Sweeps space lefts rights before nodes states more → Sweeps space lefts rights before new_nodes new_states now
  Sweeps-touch nodes states new_nodes new_states more now (Leaf q) nodes_are states_are unchanged given sweeps =
      let given_q : IsGiven space lefts rights q = subst (IsGiven space lefts rights)
      (function_in-leaf space.listing.nodes q (λ t. false)) (given (λ t. false)) in
      record {
        marks = ap length nodes_are ∙ sweeps.marks;
        many = ap length states_are ∙ length-set states q true ∙ sweeps.many;
        kept = λ p marked. ap (λ (xs : List Bool). is_marked xs p) states_are ∙ marked-set states q p (sweeps.kept p marked);
        sound = λ p marked. elim (marked-set_cases states q p (sym (ap (λ (xs : List Bool). is_marked xs p) states_are) ∙ marked)) [
          | inl old ↦ sweeps.sound p old
          | inr same ↦ inr (subst (IsGiven space lefts rights) (sym same) given_q)
        ];
        nodes_sound = λ i marked. sweeps.nodes_sound i (sym (ap (λ (xs : List Bool). is_marked xs i) nodes_are) ∙ marked);
        unchanged = λ no_more. (unchanged no_more).1 ∙ sweeps.unchanged (unchanged no_more).0;
      }
  Sweeps-touch nodes states new_nodes new_states more now (Inner k) nodes_are states_are unchanged given sweeps = record {
    marks = ap length nodes_are ∙ length-set nodes k true ∙ sweeps.marks;
    many = ap length states_are ∙ sweeps.many;
    kept = λ p marked. ap (λ (xs : List Bool). is_marked xs p) states_are ∙ sweeps.kept p marked;
    sound = λ p marked. sweeps.sound p (sym (ap (λ (xs : List Bool). is_marked xs p) states_are) ∙ marked);
    nodes_sound = λ i marked label. elim (marked-set_cases nodes k i (sym (ap (λ (xs : List Bool). is_marked xs i) nodes_are) ∙ marked)) [
      | inl old ↦ sweeps.nodes_sound i old label
      | inr same ↦ subst (λ (j : ℕ). IsGiven space lefts rights (function_of space.listing (Inner j) label)) (sym same) (given label)
    ];
    unchanged = λ no_more. (unchanged no_more).1 ∙ sweeps.unchanged (unchanged no_more).0;
  }

  -- what a root gives is given
  pub given-root : (l r : ℕ) → IsAmong lefts l → IsAmong rights r → (label : Label) →
      IsGiven space lefts rights (function_of space.listing (root_in space (cell_in space l r)) label)
  given-root l r in_left in_right label = record {
    left = l;
    right = r;
    label = label;
    in_left = in_left;
    in_right = in_right;
    gives = refl;
  }

  -- what a side of a marked node gives is given
  module _ (ordered : AreOrdered space.listing.nodes) (i : ℕ) (inside : i < length space.listing.nodes)
      (given : (label : Label) → IsGiven space lefts rights (function_of space.listing (Inner i) label)) where
    pub given-low : (label : Label) → IsGiven space lefts rights (function_of space.listing (node_at space.listing.nodes i).low label)
    given-low label =
        let nodes = space.listing.nodes in
        let n = node_at nodes i in
        let there = with_track label n.track false in
        let e : function_in nodes (Inner i) there ≡ function_in nodes n.low label =
        function_in-inner nodes i there inside (ordered.low i inside).before (ordered.high i inside).before
        ∙ ap (λ (b : Bool). if b then function_in nodes n.high there else function_in nodes n.low there) (with_track-same label n.track false)
        ∙ function_in-unasked nodes ordered n.low (suc n.track) there label (let b = (ordered.low i inside).before in omega arith) (ordered.low i inside).later
        (λ u above. with_track-later label n.track u false above) in
        subst (IsGiven space lefts rights) e (given there)

    pub given-high : (label : Label) → IsGiven space lefts rights (function_of space.listing (node_at space.listing.nodes i).high label)
    given-high label =
        let nodes = space.listing.nodes in
        let n = node_at nodes i in
        let there = with_track label n.track true in
        let e : function_in nodes (Inner i) there ≡ function_in nodes n.high label =
        function_in-inner nodes i there inside (ordered.low i inside).before (ordered.high i inside).before
        ∙ ap (λ (b : Bool). if b then function_in nodes n.high there else function_in nodes n.low there) (with_track-same label n.track true)
        ∙ function_in-unasked nodes ordered n.high (suc n.track) there label (let b = (ordered.high i inside).before in omega arith)
        (ordered.high i inside).later
        (λ u above. with_track-later label n.track u true above) in
        subst (IsGiven space lefts rights) e (given there)

-- the sides of one more node are marked
module _ (space : FormSpace) (ordered : AreOrdered space.listing.nodes) (i : ℕ) (inside : i < length space.listing.nodes) where
  -- a node that stands before marks none from i on
  untouched : (nodes : List Bool) (listed : Listed) (k : ℕ) → rank listed ≤ i → i ≤ k →
      is_marked (with_node nodes listed) k ≡ true → is_marked nodes k ≡ true
  untouched nodes (Leaf q) k before above marked = marked
  untouched nodes (Inner j) k before above marked = sym (get_or-set_other nodes j k true false (λ e. absurd (omega arith))) ∙ marked

  pub AreSidesTouched-node : (nodes states low_nodes low_states high_nodes high_states : List Bool) →
      AreSidesTouched space nodes states (suc i) →
      low_nodes ≡ with_node nodes (node_at space.listing.nodes i).low → low_states ≡ with_state states (node_at space.listing.nodes i).low →
      high_nodes ≡ with_node low_nodes (node_at space.listing.nodes i).high → high_states ≡ with_state low_states (node_at space.listing.nodes i).high →
      AreSidesTouched space high_nodes high_states i
  AreSidesTouched-node nodes states low_nodes low_states high_nodes high_states sides low_nodes_are low_states_are high_nodes_are high_states_are =
      let n = node_at space.listing.nodes i in
      let first : Grown nodes states low_nodes low_states = subst (λ (xs : List Bool). Grown nodes states xs low_states) (sym low_nodes_are)
      (subst (λ (xs : List Bool). Grown nodes states (with_node nodes n.low) xs) (sym low_states_are) (Grown-touch nodes states n.low)) in
      let second : Grown low_nodes low_states high_nodes high_states = subst (λ (xs : List Bool). Grown low_nodes low_states xs high_states)
      (sym high_nodes_are)
      (subst (λ (xs : List Bool). Grown low_nodes low_states (with_node low_nodes n.high) xs) (sym high_states_are) (Grown-touch low_nodes low_states n.high))
      in
      let both = Grown-trans nodes states low_nodes low_states high_nodes high_states first second in
      let low_here : IsTouched high_nodes high_states n.low = IsTouched-grown low_nodes low_states high_nodes high_states n.low second
      (subst (λ (xs : List Bool). IsTouched xs low_states n.low) (sym low_nodes_are)
      (subst (λ (xs : List Bool). IsTouched (with_node nodes n.low) xs n.low) (sym low_states_are) (IsTouched-touch nodes states n.low))) in
      let high_here : IsTouched high_nodes high_states n.high =
      subst (λ (xs : List Bool). IsTouched xs high_states n.high) (sym high_nodes_are)
      (subst (λ (xs : List Bool). IsTouched (with_node low_nodes n.high) xs n.high) (sym high_states_are) (IsTouched-touch low_nodes low_states n.high)) in
      let back : (k : ℕ) → i ≤ k → is_marked high_nodes k ≡ true → is_marked nodes k ≡ true = λ k above marked.
      untouched nodes n.low k (ordered.low i inside).before above (sym (ap (λ (xs : List Bool). is_marked xs k) low_nodes_are)
      ∙ untouched low_nodes n.high k (ordered.high i inside).before above (sym (ap (λ (xs : List Bool). is_marked xs k) high_nodes_are) ∙ marked)) in
      record {
        low = λ k above marked. elim (cases_eq k i) [
          | inl same ↦ subst (λ (j : ℕ). IsTouched high_nodes high_states (node_at space.listing.nodes j).low) (sym same) low_here
          | inr other ↦ IsTouched-grown nodes states high_nodes high_states (node_at space.listing.nodes k).low both
              (sides.low k (omega arith) (back k above marked))
        ];
        high = λ k above marked. elim (cases_eq k i) [
          | inl same ↦ subst (λ (j : ℕ). IsTouched high_nodes high_states (node_at space.listing.nodes j).high) (sym same) high_here
          | inr other ↦ IsTouched-grown nodes states high_nodes high_states (node_at space.listing.nodes k).high both
              (sides.high k (omega arith) (back k above marked))
        ];
      }

  -- the node isn't marked
  pub AreSidesTouched-skip : (nodes states : List Bool) → AreSidesTouched space nodes states (suc i) → is_marked nodes i ≡ false →
      AreSidesTouched space nodes states i
  AreSidesTouched-skip nodes states sides unmarked = record {
    low = λ k above marked. elim (cases_eq k i) [
      | inl same ↦ absurd (false≢true (sym unmarked ∙ sym (ap (is_marked nodes) same) ∙ marked))
      | inr other ↦ sides.low k (omega arith) marked
    ];
    high = λ k above marked. elim (cases_eq k i) [
      | inl same ↦ absurd (false≢true (sym unmarked ∙ sym (ap (is_marked nodes) same) ∙ marked))
      | inr other ↦ sides.high k (omega arith) marked
    ];
  }

-- everything under what is marked is marked
module _ (space : FormSpace) (ordered : AreOrdered space.listing.nodes) (marks states : List Bool)
    (many : length marks ≡ length space.listing.nodes) (sides : AreSidesTouched space marks states 0) (label : Label) where
  if_marked : (b : Bool) (x y : ℕ) → (x < length states → is_marked states x ≡ true) → (y < length states → is_marked states y ≡ true) →
      (if b then x else y) < length states → is_marked states (if b then x else y) ≡ true
  if_marked true x y p q inside = p inside
  if_marked false x y p q inside = q inside

  marked-within : (k : ℕ) (listed : Listed) → rank listed ≤ k → IsIn space.listing.nodes listed → IsTouched marks states listed →
      function_of space.listing listed label < length states → is_marked states (function_of space.listing listed label) ≡ true
  marked-within k (Leaf q) below is_in touched small =
      let e = function_in-leaf space.listing.nodes q label in
      subst (λ (p : ℕ). is_marked states p ≡ true) (sym e) (touched (omega arith))
  marked-within zero (Inner i) below is_in touched small = absurd (omega arith)
  marked-within (suc k) (Inner i) below is_in touched small =
      let nodes = space.listing.nodes in
      let n = node_at nodes i in
      let inside : i < length nodes = omega arith in
      let marked : is_marked marks i ≡ true = touched (omega arith) in
      let low = ordered.low i inside in
      let high = ordered.high i inside in
      let e = function_in-inner nodes i label inside low.before high.before in
      subst (λ (p : ℕ). is_marked states p ≡ true) (sym e)
      (if_marked (label n.track) (function_in nodes n.high label) (function_in nodes n.low label)
      (marked-within k n.high (let b = high.before in omega arith) (let b = high.before in omega arith) (sides.high i (omega arith) marked))
      (marked-within k n.low (let b = low.before in omega arith) (let b = low.before in omega arith) (sides.low i (omega arith) marked))
      (subst (λ (p : ℕ). p < length states) e small))

  pub marked-under : (listed : Listed) → IsIn space.listing.nodes listed → IsTouched marks states listed →
      function_of space.listing listed label < length states → is_marked states (function_of space.listing listed label) ≡ true
  marked-under listed is_in touched small = marked-within (rank listed) listed (omega arith) is_in touched small

-- what is listed is marked
pub Grown-step : (nodes states new_nodes new_states : List Bool) (listed : Listed) → new_nodes ≡ with_node nodes listed →
    new_states ≡ with_state states listed → Grown nodes states new_nodes new_states
Grown-step nodes states new_nodes new_states listed nodes_are states_are =
    subst (λ (xs : List Bool). Grown nodes states xs new_states) (sym nodes_are)
    (subst (λ (xs : List Bool). Grown nodes states (with_node nodes listed) xs) (sym states_are) (Grown-touch nodes states listed))

pub IsTouched-step : (nodes states new_nodes new_states : List Bool) (listed : Listed) → new_nodes ≡ with_node nodes listed →
    new_states ≡ with_state states listed → IsTouched new_nodes new_states listed
IsTouched-step nodes states new_nodes new_states listed nodes_are states_are =
    subst (λ (xs : List Bool). IsTouched xs new_states listed) (sym nodes_are)
    (subst (λ (xs : List Bool). IsTouched (with_node nodes listed) xs listed) (sym states_are) (IsTouched-touch nodes states listed))

-- one more pair is marked
pub touched-more : (space : FormSpace) (left : ℕ) (rights : List ℕ) (nodes states new_nodes new_states : List Bool) (index here : ℕ) →
    slice_get rights index ≡ Some here → Grown nodes states new_nodes new_states →
    IsTouched new_nodes new_states (root_in space (cell_in space left here)) →
    ((k r : ℕ) → k < index → slice_get rights k ≡ Some r → IsTouched nodes states (root_in space (cell_in space left r))) →
    (k r : ℕ) → k < index + 1 → slice_get rights k ≡ Some r → IsTouched new_nodes new_states (root_in space (cell_in space left r))
touched-more space left rights nodes states new_nodes new_states index here at grown touched before k r k_in there = elim (cases_lt k index) [
  | inl earlier ↦ IsTouched-grown nodes states new_nodes new_states (root_in space (cell_in space left r)) grown (before k r earlier there)
  | inr last ↦
      let is : k ≡ index = omega arith in
      let e : Some here ≡ Some r = sym at ∙ ap (slice_get rights) (sym is) ∙ there in
      let same : here ≡ r = cc in
      subst (λ (q : ℕ). IsTouched new_nodes new_states (root_in space (cell_in space left q))) same touched
]

-- the start of a sweep
pub Sweeps-start : (space : FormSpace) (lefts rights : List ℕ) (before nodes : List Bool) → length nodes ≡ length space.listing.nodes →
    ((i : ℕ) → is_marked nodes i ≡ true → ⊥) → Sweeps space lefts rights before nodes before false
Sweeps-start space lefts rights before nodes many none = record {
  marks = many;
  many = refl;
  kept = λ q marked. marked;
  sound = λ q marked. inl marked;
  nodes_sound = λ i marked. absurd (none i marked);
  unchanged = λ same. refl;
}

pub none-marked : (n i : ℕ) → is_marked (replicate n false) i ≡ true → ⊥
none-marked n i marked =
    let inside = marked-inside (replicate n false) i marked in
    let e = length-replicate n false in
    false≢true (sym (get_or-replicate n i false false (omega arith)) ∙ marked)

-- the end of a sweep
pub IsSwept-all : (space : FormSpace) (lefts rights : List ℕ) (before nodes states : List Bool) (more : Bool) → AreOrdered space.listing.nodes →
    ((l r : ℕ) → IsAmong lefts l → IsAmong rights r → HasRoot space l r) →
    ((l r : ℕ) (label : Label) → IsAmong lefts l → IsAmong rights r → step_in space l r label < length before) →
    Sweeps space lefts rights before nodes states more → AreSidesTouched space nodes states 0 →
    ((l r : ℕ) → IsAmong lefts l → IsAmong rights r → IsTouched nodes states (root_in space (cell_in space l r))) →
    IsSwept space lefts rights before states
IsSwept-all space lefts rights before nodes states more ordered roots small sweeps sides touched = record {
  many = sweeps.many;
  kept = sweeps.kept;
  sound = sweeps.sound;
  closed = λ l r label in_left in_right.
      marked-under space ordered nodes states sweeps.marks sides label (root_in space (cell_in space l r)) (roots l r in_left in_right).inside
      (touched l r in_left in_right) (let s = small l r label in_left in_right in let m = sweeps.many in omega arith);
}
