use Rattle.pale_fitting.proofs.ActFitLemmas.{assignment-fits}
use Rattle.pale_fitting.proofs.code.assignments_without_fault_fit.Goals as goal

pub returns : goal.returns
returns c = λ types vars entries place value all none. assignment-fits types vars entries all place value none
