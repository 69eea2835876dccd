-- What a collection leaves: the marked nodes, moved to the front, stand for the functions that they stood for.
use Rattle.std.proofs.Common.{◌≡◌, ◌≢◌, ℕ, suc, zero, ◌<◌, ◌≤◌, List, length, get_or, take, if◌then◌else◌, Some, sym, ◌∙◌, ap, refl, subst, arith}
use Rattle.std.proofs.lemmas.List.{get_or-take, length-take-le}
use Rattle.bdd_nodes.specs.declared.node_ref.NodeRef.{NodeRef}
use Rattle.bdd_nodes.specs.declared.node_ref.Named.{Named}
use Rattle.bdd_nodes.specs.declared.node_ref.Named.TheVariants.{Leaf, Inner}
use Rattle.bdd_nodes.specs.declared.node.Node.{Node}
use Rattle.labels.specs.Labels.{Label}
use Rattle.bdd_nodes.specs.Nodes.{node_of, rank, node_at, state_named, first_track, IsNamedIn, AsksNoneBelow, IsSide, AreCanonical}
use Rattle.bdd_nodes.specs.Collecting.{IsMarked, AreClosed, marked_below, moved_named, moved, moved_node, MovesBelow}
use Rattle.bdd_nodes.proofs.RefLemmas.{node_of-injective}
use Rattle.bdd_nodes.proofs.NodesLemmas.{state_named-leaf, state_named-inner, if_same}
use Rattle.bdd_nodes.proofs.CanonicalLemmas.{IsNamedIn-rank, same_node}
use Rattle.bdd_nodes.proofs.MarksLemmas.{node_of-reference_to}
use Rattle.bdd_nodes.proofs.MovesLemmas.{marked_below-le, marked_below-lt, marked_below-injective, MovesTo-below}

-- what becomes of what is named
abbrev pub moved_to : List ℕ → Named → Named
moved_to marks (Leaf state) = Leaf state
moved_to marks (Inner index) = Inner (marked_below marks index)

node_of-moved_named : (marks : List ℕ) (r : NodeRef) (named : Named) → node_of r ≡ named → node_of (moved_named marks r named) ≡ moved_to marks named
node_of-moved_named marks r (Leaf state) names = names
node_of-moved_named marks r (Inner index) names = node_of-reference_to (marked_below marks index)

pub node_of-moved : (marks : List ℕ) (r : NodeRef) → node_of (moved marks r) ≡ moved_to marks (node_of r)
node_of-moved marks r = node_of-moved_named marks r (node_of r) refl

moved_to-injective : (marks : List ℕ) (a b : Named) → IsMarked marks a → IsMarked marks b → moved_to marks a ≡ moved_to marks b → a ≡ b
moved_to-injective marks (Leaf s) (Leaf u) a_marked b_marked same = same
moved_to-injective marks (Leaf s) (Inner j) a_marked b_marked same = absurd (let e : Leaf s ≡ Inner (marked_below marks j) = same in cc)
moved_to-injective marks (Inner i) (Leaf u) a_marked b_marked same = absurd (let e : Inner (marked_below marks i) ≡ Leaf u = same in cc)
moved_to-injective marks (Inner i) (Inner j) a_marked b_marked same =
    ap Inner (marked_below-injective marks i j a_marked b_marked (let e : Inner (marked_below marks i) ≡ Inner (marked_below marks j) = same in cc))

moved-injective : (marks : List ℕ) (a b : NodeRef) → IsMarked marks (node_of a) → IsMarked marks (node_of b) → moved marks a ≡ moved marks b → a ≡ b
moved-injective marks a b a_marked b_marked same =
    node_of-injective a b (moved_to-injective marks (node_of a) (node_of b) a_marked b_marked
    (sym (node_of-moved marks a) ∙ ap node_of same ∙ node_of-moved marks b))

-- a list of nodes that the marked ones have moved to
pub record HasMoved (nodes : List Node) (marks : List ℕ) (left : List Node) : Type 0 where
  pub len : length left ≡ marked_below marks (length nodes)
  pub at : (i : ℕ) → i < length nodes → get_or marks i 0 ≡ 1 → node_at left (marked_below marks i) ≡ moved_node marks (node_at nodes i)

pub HasMoved-take : (nodes : List Node) (marks : List ℕ) (now : List Node) (links : List ℕ) →
    ((i : ℕ) → get_or marks i 0 ≤ 1) → MovesBelow nodes marks now links (length nodes) →
    HasMoved nodes marks (take (marked_below marks (length nodes)) now)
HasMoved-take nodes marks now links bits moves = record {
  len = length-take-le (marked_below marks (length nodes)) now (let b = marked_below-le marks (length nodes) bits in let l = moves.len in omega arith);
  at = λ i within marked. get_or-take (marked_below marks (length nodes)) now (marked_below marks i) _
      (marked_below-lt marks i (length nodes) within marked) ∙ moves.moved i within marked;
}

module _ (nodes : List Node) (canonical : AreCanonical nodes) (marks : List ℕ) (closed : AreClosed nodes marks)
    (left : List Node) (has_moved : HasMoved nodes marks left) where
  rank-moved_to : (named : Named) (n : ℕ) → IsMarked marks named → rank named ≤ n → rank (moved_to marks named) ≤ marked_below marks n
  rank-moved_to (Leaf state) n marked below = omega arith
  rank-moved_to (Inner p) n marked below = marked_below-lt marks p n below marked

  pub IsNamedIn-moved_to : (named : Named) → IsNamedIn nodes named → IsMarked marks named → IsNamedIn left (moved_to marks named)
  IsNamedIn-moved_to (Leaf state) valid marked = tt
  IsNamedIn-moved_to (Inner p) valid marked = let l = has_moved.len in let b = marked_below-lt marks p (length nodes) valid marked in omega arith

  track-moved : (i : ℕ) → i < length nodes → get_or marks i 0 ≡ 1 → (node_at left (marked_below marks i)).track ≡ (node_at nodes i).track
  track-moved i within marked = ap (λ (n : Node). n.track) (has_moved.at i within marked)

  pub first_track-moved_to : (named : Named) → IsNamedIn nodes named → IsMarked marks named → first_track left (moved_to marks named) ≡ first_track nodes named
  first_track-moved_to (Leaf state) valid marked = refl
  first_track-moved_to (Inner p) valid marked = ap Some (track-moved p valid marked)

  AsksNoneBelow-moved_to : (t : ℕ) (named : Named) → IsNamedIn nodes named → IsMarked marks named →
      AsksNoneBelow nodes t named → AsksNoneBelow left t (moved_to marks named)
  AsksNoneBelow-moved_to t (Leaf state) valid marked asks = tt
  AsksNoneBelow-moved_to t (Inner p) valid marked asks = let e = track-moved p valid marked in omega arith

  IsSide-moved : (i t : ℕ) (r : NodeRef) → i < length nodes → IsMarked marks (node_of r) → IsSide nodes i t r →
      IsSide left (marked_below marks i) t (moved marks r)
  IsSide-moved i t r within marked side =
      let e = sym (node_of-moved marks r) in
      record {
        before = subst (λ (m : Named). rank m ≤ marked_below marks i) e (rank-moved_to (node_of r) i marked side.before);
        later = subst (AsksNoneBelow left (suc t)) e
            (AsksNoneBelow-moved_to (suc t) (node_of r)
            (IsNamedIn-rank nodes _ (let b = side.before in omega arith)) marked side.later);
      }

  -- what holds of each moved node holds of all that are left
  each_left : (P : ℕ → Node → Type 0) →
      ((i : ℕ) → i < length nodes → get_or marks i 0 ≡ 1 →
      P (marked_below marks i) (moved_node marks (node_at nodes i))) → (j : ℕ) → j < length left → P j (node_at left j)
  each_left P each j within =
      let from = MovesTo-below marks (length nodes) j closed.bits (let l = has_moved.len in omega arith) in
      subst (λ (k : ℕ). P k (node_at left k)) from.there
      (subst (P (marked_below marks from.at)) (sym (has_moved.at from.at from.within from.marked)) (each from.at from.within from.marked))

  once_left : (j k : ℕ) → j < length left → k < length left → node_at left j ≡ node_at left k → j ≡ k
  once_left j k j_in k_in same =
      let from = MovesTo-below marks (length nodes) j closed.bits (let l = has_moved.len in omega arith) in
      let to = MovesTo-below marks (length nodes) k closed.bits (let l = has_moved.len in omega arith) in
      let nodes_same : moved_node marks (node_at nodes from.at) ≡ moved_node marks (node_at nodes to.at) =
      sym (has_moved.at from.at from.within from.marked) ∙ ap (node_at left) from.there ∙ same
      ∙ ap (node_at left) (sym to.there) ∙ has_moved.at to.at to.within to.marked in
      let indices : from.at ≡ to.at = canonical.once from.at to.at from.within to.within
      (same_node (node_at nodes from.at) (node_at nodes to.at) (ap (λ (n : Node). n.track) nodes_same)
      (moved-injective marks _ _ (closed.low from.at from.within from.marked) (closed.low to.at to.within to.marked) (ap (λ (n : Node). n.low) nodes_same))
      (moved-injective marks _ _ (closed.high from.at from.within from.marked)
      (closed.high to.at to.within to.marked) (ap (λ (n : Node). n.high) nodes_same))) in
      sym from.there ∙ ap (marked_below marks) indices ∙ to.there

  pub AreCanonical-left : AreCanonical left
  AreCanonical-left = record {
    low = each_left (λ j n. IsSide left j n.track n.low) (λ i within marked. IsSide-moved i _ _ within (closed.low i within marked) (canonical.low i within));
    high = each_left (λ j n. IsSide left j n.track n.high)
        (λ i within marked. IsSide-moved i _ _ within (closed.high i within marked) (canonical.high i within));
    differ = each_left (λ j n. n.low ≢ n.high) (λ i within marked same.
        canonical.differ i within (moved-injective marks _ _ (closed.low i within marked) (closed.high i within marked) same));
    once = once_left;
  }

  states_up_to : (k : ℕ) (named : Named) (label : Label) → rank named ≤ k → IsNamedIn nodes named →
      IsMarked marks named → state_named left (moved_to marks named) label ≡ state_named nodes named label
  states_up_to k (Leaf state) label below valid marked = state_named-leaf left state label ∙ sym (state_named-leaf nodes state label)
  states_up_to zero (Inner p) label below valid marked = absurd (omega arith)
  states_up_to (suc k) (Inner p) label below valid marked =
      let n = node_at nodes p in
      let low = canonical.low p valid in
      let high = canonical.high p valid in
      let in_left : marked_below marks p < length left = IsNamedIn-moved_to (Inner p) valid marked in
      state_named-inner left (marked_below marks p) label in_left
      (AreCanonical-left.low (marked_below marks p) in_left).before
      (AreCanonical-left.high (marked_below marks p) in_left).before
      ∙ ap (λ (m : Node). if label m.track then state_named left (node_of m.high) label else state_named left
      (node_of m.low) label) (has_moved.at p valid marked)
      ∙ if_same (label n.track) _ _ _ _
      (ap (λ (m : Named). state_named left m label) (node_of-moved marks n.high)
      ∙ states_up_to k (node_of n.high) label (let b = high.before in omega arith)
      (IsNamedIn-rank nodes _ (let b = high.before in omega arith)) (closed.high p valid marked))
      (ap (λ (m : Named). state_named left m label) (node_of-moved marks n.low)
      ∙ states_up_to k (node_of n.low) label (let b = low.before in omega arith)
      (IsNamedIn-rank nodes _ (let b = low.before in omega arith)) (closed.low p valid marked))
      ∙ sym (state_named-inner nodes p label valid low.before high.before)

  -- what is marked stands for the function that it stood for
  pub state_named-moved_to : (named : Named) (label : Label) → IsNamedIn nodes named → IsMarked marks named →
      state_named left (moved_to marks named) label ≡ state_named nodes named label
  state_named-moved_to named label valid marked = states_up_to (rank named) named label (omega arith) valid marked
