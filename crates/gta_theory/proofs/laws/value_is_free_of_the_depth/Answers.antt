use Rattle.gta_theory.proofs.AutomataLemmas.{value-same}
use Rattle.gta_theory.proofs.laws.value_is_free_of_the_depth.Goals as goal

pub returns : goal.returns
returns c = λ g A guide stable. value-same g guide A stable
