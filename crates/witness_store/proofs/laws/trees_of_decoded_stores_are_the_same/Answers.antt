use Rattle.ws2s_core.specs.LabelTrees.{assignment_of}
use Rattle.witness_store.proofs.UsesLemmas.{AreSameBelow-assignments}
use Rattle.witness_store.proofs.laws.trees_of_decoded_stores_are_the_same.Goals as goal

pub returns : goal.returns
returns c = λ types vars s a nodes of tree. AreSameBelow-assignments types vars s (assignment_of nodes) a tree.assignment of.assignment
