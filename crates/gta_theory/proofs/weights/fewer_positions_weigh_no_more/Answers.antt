use Rattle.gta_theory.proofs.WeightsLemmas.{weight-le, weight-emptied, weight-unlisted}
use Rattle.gta_theory.proofs.weights.fewer_positions_weigh_no_more.Goals as goal

pub returns : goal.returns
returns c = record { no_more = weight-le; emptied = weight-emptied; unlisted = weight-unlisted }
