use Rattle.ws2s_theory.proofs.TreesLemmas.{Accepts-root}
use Rattle.ws2s_theory.proofs.label_trees.values_decide_acceptance.Goals as goal

pub returns : goal.returns
returns c = λ g A nodes guide stable. Accepts-root g guide A stable nodes
