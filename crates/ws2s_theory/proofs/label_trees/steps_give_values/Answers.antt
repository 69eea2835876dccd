use Rattle.ws2s_theory.proofs.TreesLemmas.{value-step}
use Rattle.ws2s_theory.proofs.label_trees.steps_give_values.Goals as goal

pub returns : goal.returns
returns c = λ g A s nodes k node guide stable there tree at. value-step g guide A stable nodes s k node there tree at
