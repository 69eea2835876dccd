use Rattle.pale_fitting.proofs.ProcedureLemmas.{procedure-fits}
use Rattle.pale_fitting.proofs.assertions.assertions_of_procedures_fit.Goals as goal

pub returns : goal.returns
returns c = procedure-fits
