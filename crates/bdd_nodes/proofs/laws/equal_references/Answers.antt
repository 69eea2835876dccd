use Rattle.std.proofs.Common.{ap}
use Rattle.bdd_nodes.specs.Nodes.{node_of}
use Rattle.bdd_nodes.specs.declared.node_ref.NodeRef.{NodeRef}
use Rattle.bdd_nodes.specs.Shelf.{state_of}
use Rattle.bdd_nodes.proofs.RefLemmas.{node_of-injective}
use Rattle.bdd_nodes.proofs.CanonicalLemmas.{equal_named}
use Rattle.bdd_nodes.proofs.laws.equal_references.Goals as goal

pub returns : goal.returns
returns c = λ shelf a b is_shelf a_valid b_valid. (
  λ e label. ap (λ (r : NodeRef). state_of shelf r label) e,
  λ same. node_of-injective a b (equal_named shelf.nodes is_shelf.canonical (node_of a) (node_of b) a_valid b_valid same),
)
