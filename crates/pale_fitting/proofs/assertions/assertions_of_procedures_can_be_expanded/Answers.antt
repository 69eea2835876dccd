use Rattle.pale_fitting.proofs.ProcedureLemmas.{procedure-can-expand}
use Rattle.pale_fitting.proofs.assertions.assertions_of_procedures_can_be_expanded.Goals as goal

pub returns : goal.returns
returns c = procedure-can-expand
