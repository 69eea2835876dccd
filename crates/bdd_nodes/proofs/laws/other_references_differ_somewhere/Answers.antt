use Rattle.bdd_nodes.specs.Nodes.{node_of}
use Rattle.bdd_nodes.proofs.RefLemmas.{node_of-injective}
use Rattle.bdd_nodes.proofs.CanonicalLemmas.{differ_named}
use Rattle.bdd_nodes.proofs.laws.other_references_differ_somewhere.Goals as goal

pub returns : goal.returns
returns c = λ shelf a b is_shelf a_valid b_valid other.
    differ_named shelf.nodes is_shelf.canonical (node_of a) (node_of b) a_valid b_valid (λ e. other (node_of-injective a b e))
