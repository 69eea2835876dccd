use Rattle.std.proofs.Common.{sym}
use Rattle.bdd_nodes.proofs.ReadLemmas.{IsLeaf-named}
use Rattle.bdd_nodes.proofs.node_ref.NodeRef.state.Goals as goal

pub returns-in-Leaf-clause-leaf : goal.returns-in-Leaf-clause-leaf
returns-in-Leaf-clause-leaf c = IsLeaf-named _ _ (sym c.in-Leaf.ensures)
