-- What references are, as the getters say it.
use Rattle.std.proofs.Common.{◌≡◌, ℕ, suc, ◌-◌, ◌^◌, ◌<◌, List, length, Bool, true, false, if◌then◌else◌, sym, ◌∙◌, ap, subst, inl, inr, arith}
use Rattle.std.proofs.lemmas.Bool.{cases_lt}
use Rattle.bdd_nodes.specs.declared.node_ref.NodeRef.{NodeRef}
use Rattle.bdd_nodes.specs.declared.node_ref.Named.{Named}
use Rattle.bdd_nodes.specs.declared.node_ref.Named.TheVariants.{Leaf, Inner}
use Rattle.bdd_nodes.specs.declared.node.Node.{Node}
use Rattle.labels.specs.Labels.{Label}
use Rattle.bdd_nodes.specs.Nodes.{node_of, rank, node_at, state_named, IsNamedIn, first_track, AsksNoneBelow, AreCanonical}
use Rattle.bdd_nodes.specs.Shelf.{Contents, IsShelf, IsSideFor, IsLeaf, Splits, choice_of, low_of, high_of, low_named, high_named, rank_of}
use Rattle.bdd_nodes.proofs.RefLemmas.{node_of-leaf, node_of-inner}
use Rattle.bdd_nodes.proofs.NodesLemmas.{state_named-leaf, state_named-inner}
use Rattle.bdd_nodes.proofs.CanonicalLemmas.{IsNamedIn-rank}

-- a leaf's state is below 2 ^ 31
pub small-leaf : (r : NodeRef) (state : ℕ) → node_of r ≡ Leaf state → state < 2 ^ 31
small-leaf r state named = elim (cases_lt r.word (2 ^ 31)) [
  | inl small ↦ (let e : Leaf state ≡ Leaf r.word = sym named ∙ node_of-leaf r small in let f : state ≡ r.word = cc in omega arith)
  | inr large ↦ absurd (let e : Leaf state ≡ Inner (r.word - 2 ^ 31) = sym named ∙ node_of-inner r large in cc)
]

pub IsLeaf-named : (r : NodeRef) (state : ℕ) → node_of r ≡ Leaf state → IsLeaf r state
IsLeaf-named r state named = record {
  small = small-leaf r state named;
  valid = λ shelf. subst (IsNamedIn shelf.nodes) (sym named) tt;
  states = λ shelf label. ap (λ (m : Named). state_named shelf.nodes m label) named ∙ state_named-leaf shelf.nodes state label;
  asks = λ shelf t. subst (AsksNoneBelow shelf.nodes t) (sym named) tt;
  top = λ shelf. ap (first_track shelf.nodes) named;
  side = λ shelf track. record {
    valid = subst (IsNamedIn shelf.nodes) (sym named) tt;
    later = subst (AsksNoneBelow shelf.nodes (suc track)) (sym named) tt;
  };
}

-- an inner node under its track
module _ (shelf : Contents) (is_shelf : IsShelf shelf) (r : NodeRef) (index : ℕ) (named : node_of r ≡ Inner index) (within : index < length shelf.nodes) where
  low_is : low_of shelf r ≡ (node_at shelf.nodes index).low
  low_is = ap (low_named shelf.nodes r) named

  high_is : high_of shelf r ≡ (node_at shelf.nodes index).high
  high_is = ap (high_named shelf.nodes r) named

  pub Splits-inner : Splits shelf r (node_at shelf.nodes index).track
  Splits-inner =
      let low = is_shelf.canonical.low index within in
      let high = is_shelf.canonical.high index within in
      let t = (node_at shelf.nodes index).track in
      record {
        low = subst (IsSideFor shelf t) (sym low_is) (record { valid = IsNamedIn-rank shelf.nodes _ (let b = low.before in omega arith); later = low.later });
        high = subst (IsSideFor shelf t) (sym high_is)
            (record { valid = IsNamedIn-rank shelf.nodes _ (let b = high.before in omega arith); later = high.later });
        differ = λ same. is_shelf.canonical.differ index within (sym low_is ∙ same ∙ high_is);
        states = λ label.
            ap (λ (m : Named). state_named shelf.nodes m label) named
            ∙ state_named-inner shelf.nodes index label within low.before high.before
            ∙ ap (λ (x : NodeRef). choice_of shelf t x (node_at shelf.nodes index).high label) (sym low_is)
            ∙ ap (λ (x : NodeRef). choice_of shelf t (low_of shelf r) x label) (sym high_is);
        low_falls = subst (λ (x : NodeRef). rank_of x < rank_of r) (sym low_is)
            (subst (λ (m : Named). rank_of (node_at shelf.nodes index).low < rank m) (sym named)
            (let b = low.before in omega arith));
        high_falls = subst (λ (x : NodeRef). rank_of x < rank_of r) (sym high_is)
            (subst (λ (m : Named). rank_of (node_at shelf.nodes index).high < rank m) (sym named)
            (let b = high.before in omega arith));
      }

-- one step from an inner node along a label
module _ (nodes : List Node) (canonical : AreCanonical nodes) (r : NodeRef) (index : ℕ) (named : node_of r
    ≡ Inner index) (within : index < length nodes) (label : Label) where
  inner_state : state_named nodes (node_of r) label
      ≡ (if label (node_at nodes index).track then state_named nodes (node_of (node_at nodes index).high) label
      else state_named nodes (node_of (node_at nodes index).low) label)
  inner_state =
      ap (λ (m : Named). state_named nodes m label) named
      ∙ state_named-inner nodes index label within (canonical.low index within).before (canonical.high index within).before

  pub step-high : (n : Node) → node_at nodes index ≡ n → label n.track ≡ true → IsNamedIn nodes (node_of n.high)
      × (state_named nodes (node_of n.high) label ≡ state_named nodes (node_of r) label)
  step-high n e set = subst (λ (m : Node). label m.track ≡ true → IsNamedIn nodes (node_of m.high)
      × (state_named nodes (node_of m.high) label ≡ state_named nodes (node_of r) label)) e
      (λ is_set. (
        IsNamedIn-rank nodes _ (let b = (canonical.high index within).before in omega arith),
        sym (inner_state ∙ ap (λ (b : Bool). if b then state_named nodes (node_of (node_at nodes index).high) label
            else state_named nodes (node_of (node_at nodes index).low) label) is_set),
      )) set

  pub step-low : (n : Node) → node_at nodes index ≡ n → label n.track ≡ false → IsNamedIn nodes (node_of n.low)
      × (state_named nodes (node_of n.low) label ≡ state_named nodes (node_of r) label)
  step-low n e unset = subst (λ (m : Node). label m.track ≡ false → IsNamedIn nodes (node_of m.low)
      × (state_named nodes (node_of m.low) label ≡ state_named nodes (node_of r) label)) e
      (λ is_unset. (
        IsNamedIn-rank nodes _ (let b = (canonical.low index within).before in omega arith),
        sym (inner_state ∙ ap (λ (b : Bool). if b then state_named nodes (node_of (node_at nodes index).high) label
            else state_named nodes (node_of (node_at nodes index).low) label) is_unset),
      )) unset
