use Rattle.pale_fitting.proofs.ExpansionLemmas.{expansion-fits}
use Rattle.pale_fitting.proofs.assertions.expansions_fit.Goals as goal

pub returns : goal.returns
returns c = expansion-fits
