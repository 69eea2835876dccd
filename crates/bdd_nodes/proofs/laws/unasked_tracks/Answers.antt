use Rattle.bdd_nodes.specs.Nodes.{node_of}
use Rattle.bdd_nodes.proofs.CanonicalLemmas.{state_named-unasked}
use Rattle.bdd_nodes.proofs.laws.unasked_tracks.Goals as goal

pub returns : goal.returns
returns c = λ shelf r t l m is_shelf valid asks agree.
    state_named-unasked shelf.nodes is_shelf.canonical (node_of r) t l m valid asks agree
