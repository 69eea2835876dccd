use Rattle.bdd_nodes.specs.Nodes.{node_of}
use Rattle.bdd_nodes.proofs.CanonicalLemmas.{changes_named}
use Rattle.bdd_nodes.proofs.laws.inner_references_change_with_their_first_track.Goals as goal

pub returns : goal.returns
returns c = λ shelf r t is_shelf valid top. changes_named shelf.nodes is_shelf.canonical (node_of r) t valid top
