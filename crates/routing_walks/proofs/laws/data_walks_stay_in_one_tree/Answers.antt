use Rattle.routing_walks.proofs.TreeLemmas.{Walk-one_tree}
use Rattle.routing_walks.proofs.laws.data_walks_stay_in_one_tree.Goals as goal

pub returns : goal.returns
returns c = Walk-one_tree
