use Rattle.std.proofs.Common.{◌≡◌, vec_len}
use Rattle.gta_refine.specs.Uses.{IsRoot}
use Rattle.gta_refine.proofs.UsesLemmas.{AboveBelow}
use Rattle.gta_refine.proofs.uses.roots_of.Given as goal

abbrev pub invariant-loop-index : goal.invariant-loop-index
invariant-loop-index l = record {
  leaves : vec_len l.leaf_lists ≡ l.states;
  nodes : vec_len l.node_lists ≡ l.nodes;
  above : AboveBelow (IsRoot l.roots) l.leaf_lists.items l.node_lists.items l.index;
}
