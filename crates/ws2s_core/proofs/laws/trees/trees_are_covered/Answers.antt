use Rattle.ws2s_core.proofs.LabelTreesLemmas.{Covers-tree}
use Rattle.ws2s_core.proofs.laws.trees.trees_are_covered.Goals as goal

pub returns : goal.returns
returns c = Covers-tree
