-- One node after the other.
use Rattle.std.proofs.Common.{◌<◌, ℕ, List, length, inl, inr, refl, sym, subst, arith}
use Rattle.bdd_list.specs.Listing.{node_at}
use Rattle.gta_refine.specs.Uses.{IsAddedAbove, AreAbove, HasSide}
use Rattle.gta_refine.proofs.UsesLemmas.{AboveBelow-none, AboveBelow-two, AreAbove-all}
use Rattle.gta_refine.proofs.uses.parents_of.Goals as goal

pub loop-index-init : goal.loop-index-init
loop-index-init c = record {
  leaves = c.in_ok-leaf_lists.ensures.many;
  nodes = c.in_ok-node_lists.ensures.many;
  above = AboveBelow-none (HasSide c.args.nodes.now) c.in_ok-leaf_lists.leaf_lists.items c.in_ok-node_lists.node_lists.items
      c.in_ok-leaf_lists.ensures.empty c.in_ok-node_lists.ensures.empty;
}

pub loop-index-preserved : goal.loop-index-preserved
loop-index-preserved c =
    let nodes = c.args.nodes.now in
    let at = c.loop-index.index in
    let node = node_at nodes at in
    let leaves = c.loop-index.leaf_lists.items in
    let above = c.loop-index.node_lists.items in
    let mid_leaves = c.add_above.new.leaves.items in
    let mid_above = c.add_above.new.nodes.items in
    let new_leaves = c.add_above-in-loop-index.new.leaves.items in
    let new_above = c.add_above-in-loop-index.new.nodes.items in
    let inside : at < length nodes = (let t = c.loop-index-test.true in omega arith) in
    let first : IsAddedAbove leaves above node.low at mid_leaves mid_above =
    subst (λ (n : ℕ). IsAddedAbove leaves above node.low n mid_leaves mid_above) c.in_ok-number.ensures c.in_ok-add_above.ensures in
    let second : IsAddedAbove mid_leaves mid_above node.high at new_leaves new_above =
    subst (λ (n : ℕ). IsAddedAbove mid_leaves mid_above node.high n new_leaves new_above) c.in_ok-number.ensures c.in_ok-add_above-2.ensures in
    record {
      leaves = let a = first.many_leaves in let b = second.many_leaves in let l = c.loop-index.invariant.leaves in
          let o = c.loop-index.leaf_lists.ok in let n = c.add_above-in-loop-index.new.leaves.ok in omega arith;
      nodes = let a = first.many_nodes in let b = second.many_nodes in let l = c.loop-index.invariant.nodes in
          let o = c.loop-index.node_lists.ok in let n = c.add_above-in-loop-index.new.nodes.ok in omega arith;
      above = AboveBelow-two (HasSide nodes) leaves above mid_leaves mid_above new_leaves new_above at node.low node.high c.loop-index.invariant.above
          first second (inside, inl refl) (inside, inr refl) (λ other has. has.1);
    }

pub returns-clause-above : goal.returns-clause-above
returns-clause-above c =
    let nodes = c.args.nodes.now in
    let leaves = c.loop-index.leaf_lists.items in
    let above = c.loop-index.node_lists.items in
    subst (λ (xs : List (List ℕ)). AreAbove (HasSide nodes) xs c.from_vec-2.result) (sym c.from_vec.ensures)
    (subst (AreAbove (HasSide nodes) leaves) (sym c.from_vec-2.ensures)
    (AreAbove-all (HasSide nodes) leaves above c.loop-index.index c.loop-index.invariant.above
    (λ b listed has. let i = has.0 in let t = c.loop-index-test.false in omega arith)))
