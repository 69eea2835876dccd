-- One root after the other.
use Rattle.std.proofs.Common.{◌≡◌, ℕ, List, length, refl, sym, subst, arith}
use Rattle.std.specs.Prelude.{slice_index_or}
use Rattle.bdd_list.specs.declared.listing.Listed.TheVariants.{Leaf}
use Rattle.gta_refine.specs.Uses.{IsAddedAbove, AreAbove, IsRoot}
use Rattle.gta_refine.proofs.UsesLemmas.{AboveBelow-none, AboveBelow-one, AreAbove-all}
use Rattle.gta_refine.proofs.uses.roots_of.Goals as goal

pub loop-index-init : goal.loop-index-init
loop-index-init c = record {
  leaves = c.in_ok-leaf_lists.ensures.many;
  nodes = c.in_ok-node_lists.ensures.many;
  above = AboveBelow-none (IsRoot c.args.roots.now) c.in_ok-leaf_lists.leaf_lists.items c.in_ok-node_lists.node_lists.items
      c.in_ok-leaf_lists.ensures.empty c.in_ok-node_lists.ensures.empty;
}

pub loop-index-preserved : goal.loop-index-preserved
loop-index-preserved c =
    let roots = c.args.roots.now in
    let at = c.loop-index.index in
    let root = slice_index_or roots at (Leaf 0) in
    let leaves = c.loop-index.leaf_lists.items in
    let above = c.loop-index.node_lists.items in
    let new_leaves = c.add_above.new.leaves.items in
    let new_above = c.add_above.new.nodes.items in
    let added : IsAddedAbove leaves above root at new_leaves new_above =
    subst (λ (n : ℕ). IsAddedAbove leaves above root n new_leaves new_above) c.in_ok-number.ensures c.in_ok-add_above.ensures in
    record {
      leaves = let a = added.many_leaves in let l = c.loop-index.invariant.leaves in
          let o = c.loop-index.leaf_lists.ok in let n = c.add_above.new.leaves.ok in omega arith;
      nodes = let a = added.many_nodes in let l = c.loop-index.invariant.nodes in
          let o = c.loop-index.node_lists.ok in let n = c.add_above.new.nodes.ok in omega arith;
      above = AboveBelow-one (IsRoot roots) leaves above new_leaves new_above at root c.loop-index.invariant.above added
          (c.loop-index-test.true, refl) (λ other is. sym is.1);
    }

pub returns-clause-above : goal.returns-clause-above
returns-clause-above c =
    let roots = c.args.roots.now in
    let leaves = c.loop-index.leaf_lists.items in
    let above = c.loop-index.node_lists.items in
    let end : c.loop-index.index ≡ length roots = (let t = c.loop-index-test.false in let e = c.loop-index.auto.index-end in omega arith) in
    subst (λ (xs : List (List ℕ)). AreAbove (IsRoot roots) xs c.from_vec-2.result) (sym c.from_vec.ensures)
    (subst (AreAbove (IsRoot roots) leaves) (sym c.from_vec-2.ensures)
    (AreAbove-all (IsRoot roots) leaves above c.loop-index.index c.loop-index.invariant.above (λ b listed is. let i = is.0 in omega arith)))
