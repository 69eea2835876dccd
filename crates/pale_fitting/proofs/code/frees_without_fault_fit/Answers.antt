use Rattle.pale_fitting.proofs.ActFitLemmas.{free-fits}
use Rattle.pale_fitting.proofs.code.frees_without_fault_fit.Goals as goal

pub returns : goal.returns
returns c = λ types vars entries name all none. free-fits types vars entries all name none
