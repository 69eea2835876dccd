use Rattle.gta_theory.proofs.WeightsLemmas.{IsLeastWeight-table, None-table}
use Rattle.gta_theory.proofs.weights.relaxed_weights_are_least.Goals as goal

pub returns : goal.returns
returns c = record {
  least = λ g A tracks weights rank guide stable. IsLeastWeight-table g guide A stable tracks weights rank;
  none = λ g A tracks weights rank guide stable. None-table g guide A stable tracks weights rank;
}
