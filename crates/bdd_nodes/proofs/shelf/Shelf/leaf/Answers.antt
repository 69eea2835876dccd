use Rattle.bdd_nodes.proofs.ReadLemmas.{IsLeaf-named}
use Rattle.bdd_nodes.proofs.shelf.Shelf.leaf.Goals as goal

pub returns : goal.returns
returns c = IsLeaf-named _ _ c.leaf.ensures
