use Rattle.gta_theory.proofs.WeightsLemmas.{weight-same}
use Rattle.gta_theory.proofs.weights.weight_is_free_of_the_depth.Goals as goal

pub returns : goal.returns
returns c = weight-same
