use Rattle.gta_theory.proofs.WeightsLemmas.{IsLightest-table, not_accepted-table}
use Rattle.gta_theory.proofs.weights.lightest_accepted_is_a_lightest_accepting_state.Goals as goal

pub returns : goal.returns
returns c = record {
  some = λ g A tracks weights rank guide stable. IsLightest-table g guide A stable tracks weights rank;
  none = λ g A tracks weights rank guide stable. not_accepted-table g guide A stable tracks weights rank;
}
