use Rattle.pale_fitting.proofs.UseLemmas.{can-expand}
use Rattle.pale_fitting.proofs.assertions.assertions_that_fit_can_be_expanded.Goals as goal

pub returns : goal.returns
returns c = can-expand
