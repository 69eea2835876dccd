use Rattle.pale_fitting.proofs.ProcedureLemmas.{procedure-expansion-fits}
use Rattle.pale_fitting.proofs.assertions.expansions_of_procedures_fit.Goals as goal

pub returns : goal.returns
returns c = procedure-expansion-fits
