-- Moving marked nodes to the front.
use Rattle.std.proofs.Common.{◌≡◌, ℕ, suc, zero, ◌+◌, ◌^◌, ◌<◌, ◌≤◌, List, length, get_or, set, ◌∙◌, ap, refl, subst, inl, inr, arith}
use Rattle.std.proofs.lemmas.Bool.{cases_lt}
use Rattle.std.proofs.lemmas.List.{get_or-set_other, get_or-set_same, length-set}
use Rattle.bdd_nodes.specs.declared.node_ref.NodeRef.{NodeRef}
use Rattle.bdd_nodes.specs.declared.node_ref.Named.{Named}
use Rattle.bdd_nodes.specs.declared.node_ref.Named.TheVariants.{Leaf, Inner}
use Rattle.bdd_nodes.specs.declared.node.Node.{Node}
use Rattle.bdd_nodes.specs.Nodes.{node_of, rank, node_at, AreCanonical}
use Rattle.bdd_nodes.specs.Collecting.{reference_to, IsMarked, marked_below, moved_named, moved, moved_node, MovesBelow}
use Rattle.bdd_nodes.specs.Collecting.{linked_named, linked, IsLinked, AreClosed}
use Rattle.bdd_nodes.proofs.CanonicalLemmas.{same_node}

-- no more are marked than there are
pub marked_below-le : (marks : List ℕ) (n : ℕ) → ((i : ℕ) → get_or marks i 0 ≤ 1) → marked_below marks n ≤ n
marked_below-le marks zero bits = omega arith
marked_below-le marks (suc n) bits = let r = marked_below-le marks n bits in let b = bits n in omega arith

pub marked_below-mono : (marks : List ℕ) (i j : ℕ) → i ≤ j → marked_below marks i ≤ marked_below marks j
marked_below-mono marks i zero below = subst (λ (k : ℕ). marked_below marks k ≤ 0) (let e : 0 ≡ i = omega arith in e) (omega arith)
marked_below-mono marks i (suc j) below = elim (cases_lt i (suc j)) [
  | inl earlier ↦ (let r = marked_below-mono marks i j (omega arith) in omega arith)
  | inr here ↦ subst (λ (k : ℕ). marked_below marks k ≤ marked_below marks (suc j)) (let e : suc j ≡ i = omega arith in e) (omega arith)
]

-- a marked index moves before those of later indices
pub marked_below-lt : (marks : List ℕ) (i j : ℕ) → i < j → get_or marks i 0 ≡ 1 → marked_below marks i < marked_below marks j
marked_below-lt marks i j below marked = let r = marked_below-mono marks (suc i) j below in omega arith

-- two marked indices that move to one are one
pub marked_below-injective : (marks : List ℕ) (i j : ℕ) → get_or marks i 0 ≡ 1 → get_or marks j 0 ≡ 1 → marked_below marks i ≡ marked_below marks j → i ≡ j
marked_below-injective marks i j i_marked j_marked same = elim (cases_lt i j) [
  | inl below ↦ absurd (let r = marked_below-lt marks i j below i_marked in omega arith)
  | inr not_below ↦ elim (cases_lt j i) [
    | inl above ↦ absurd (let r = marked_below-lt marks j i above j_marked in omega arith)
    | inr not_above ↦ omega arith
  ]
]

-- the marked index that moves to an index
pub record MovesTo (marks : List ℕ) (n index : ℕ) : Type 0 where
  pub at : ℕ
  pub within : at < n
  pub marked : get_or marks at 0 ≡ 1
  pub there : marked_below marks at ≡ index

pub MovesTo-below : (marks : List ℕ) (n index : ℕ) → ((i : ℕ) → get_or marks i 0 ≤ 1) → index < marked_below marks n → MovesTo marks n index
MovesTo-below marks zero index bits below = absurd (omega arith)
MovesTo-below marks (suc n) index bits below = elim (cases_lt index (marked_below marks n)) [
  | inl earlier ↦ (let m = MovesTo-below marks n index bits earlier in
      record { at = m.at; within = (let w = m.within in omega arith); marked = m.marked; there = m.there })
  | inr here ↦ record { at = n; within = omega arith; marked = (let b = bits n in omega arith); there = (let b = bits n in omega arith) }
]

pub MovesBelow-none : (nodes : List Node) (marks : List ℕ) → MovesBelow nodes marks nodes marks 0
MovesBelow-none nodes marks = record {
  len = refl;
  links_len = refl;
  ahead = λ i from. refl;
  marks_ahead = λ i from. refl;
  moved = λ i below marked. absurd (omega arith);
  linked = record { at = λ i below marked. absurd (omega arith) };
}

module _ (nodes : List Node) (canonical : AreCanonical nodes) (marks : List ℕ) (closed : AreClosed nodes marks)
    (now : List Node) (links : List ℕ) (index : ℕ) (so_far : MovesBelow nodes marks now links index)
    (within : index < length nodes) where
  linked_named-moved : (r : NodeRef) (named : Named) → IsMarked marks named → rank named ≤ index → linked_named links r named ≡ moved_named marks r named
  linked_named-moved r (Leaf state) marked below = refl
  linked_named-moved r (Inner p) marked below = ap reference_to (let l = so_far.linked.at p below marked in omega arith)

  -- a side's link leads to where the side moved
  pub linked-moved : (r : NodeRef) → IsMarked marks (node_of r) → rank (node_of r) ≤ index → linked links r ≡ moved marks r
  linked-moved r marked below = linked_named-moved r (node_of r) marked below

  IsLinked-named : (named : Named) → length nodes ≤ length marks → length nodes < 2 ^ 31 → IsMarked marks named → rank named ≤ index → IsLinked links named
  IsLinked-named (Leaf state) fits small marked below = tt
  IsLinked-named (Inner p) fits small marked below =
      let l = so_far.linked.at p below marked in
      let m = marked_below-le marks p closed.bits in
      let e = so_far.links_len in
      (omega arith, omega arith, omega arith)

  module _ (is_marked : get_or marks index 0 ≡ 1) (fits : length nodes ≤ length marks) (small : length nodes < 2 ^ 31) where
    pub low-linked : IsLinked links (node_of (node_at nodes index).low)
    low-linked = IsLinked-named _ fits small (closed.low index within is_marked) (canonical.low index within).before

    pub high-linked : IsLinked links (node_of (node_at nodes index).high)
    high-linked = IsLinked-named _ fits small (closed.high index within is_marked) (canonical.high index within).before

    pub node-moved : (n : Node) → n.track ≡ (node_at nodes index).track →
        n.low ≡ linked links (node_at nodes index).low → n.high ≡ linked links (node_at nodes index).high →
        n ≡ moved_node marks (node_at nodes index)
    node-moved n track low high = same_node n (moved_node marks (node_at nodes index)) track
        (low ∙ linked-moved _ (closed.low index within is_marked) (canonical.low index within).before)
        (high ∙ linked-moved _ (closed.high index within is_marked) (canonical.high index within).before)

    kept_le : marked_below marks index ≤ index
    kept_le = marked_below-le marks index closed.bits

    -- the node at a marked index moves
    pub MovesBelow-marked : MovesBelow nodes marks
        (set now (marked_below marks index) (moved_node marks (node_at nodes index)))
        (set links index (marked_below marks index + 1)) (suc index)
    MovesBelow-marked = record {
      len = length-set now _ _ ∙ so_far.len;
      links_len = length-set links _ _ ∙ so_far.links_len;
      ahead = λ i from. get_or-set_other now (marked_below marks index) i _ _ (λ e. let k = kept_le in omega arith) ∙ so_far.ahead i (omega arith);
      marks_ahead = λ i from. get_or-set_other links index i _ 0 (λ e. omega arith) ∙ so_far.marks_ahead i (omega arith);
      moved = λ i below marked. elim (cases_lt i index) [
        | inl earlier ↦ get_or-set_other now (marked_below marks index) (marked_below marks i) _ _
            (λ e. let l = marked_below-lt marks i index earlier marked in omega arith) ∙ so_far.moved i earlier marked
        | inr late ↦ subst (λ (k : ℕ).
            node_at (set now (marked_below marks index) (moved_node marks (node_at nodes index)))
            (marked_below marks k) ≡ moved_node marks (node_at nodes k)) (let e : index ≡ i = omega arith in e)
            (get_or-set_same now (marked_below marks index) _ _ (let k = kept_le in let l = so_far.len in omega arith))
      ];
      linked = record {
        at = λ i below marked. elim (cases_lt i index) [
          | inl earlier ↦ get_or-set_other links index i _ 0 (λ e. omega arith) ∙ so_far.linked.at i earlier marked
          | inr late ↦ subst (λ (k : ℕ). get_or (set links index (marked_below marks index + 1)) k 0
              ≡ marked_below marks k + 1) (let e : index ≡ i = omega arith in e)
              (get_or-set_same links index _ 0 (let l = so_far.links_len in omega arith))
        ];
      };
    }

  -- the node at an unmarked index is left behind
  pub MovesBelow-unmarked : (get_or marks index 0 ≡ 1 → ⊥) → MovesBelow nodes marks now links (suc index)
  MovesBelow-unmarked unmarked = record {
    len = so_far.len;
    links_len = so_far.links_len;
    ahead = λ i from. so_far.ahead i (omega arith);
    marks_ahead = λ i from. so_far.marks_ahead i (omega arith);
    moved = λ i below marked. elim (cases_lt i index) [
      | inl earlier ↦ so_far.moved i earlier marked
      | inr late ↦ absurd (unmarked (ap (λ (k : ℕ). get_or marks k 0) (let e : index ≡ i = omega arith in e) ∙ marked))
    ];
    linked = record {
      at = λ i below marked. elim (cases_lt i index) [
        | inl earlier ↦ so_far.linked.at i earlier marked
        | inr late ↦ absurd (unmarked (ap (λ (k : ℕ). get_or marks k 0) (let e : index ≡ i = omega arith in e) ∙ marked))
      ];
    };
  }
