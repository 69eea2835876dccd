use Rattle.pale_fitting.proofs.CodeFitLemmas.{condition-fits}
use Rattle.pale_fitting.proofs.code.conditions_without_fault_fit.Goals as goal

pub returns : goal.returns
returns c = λ types vars entries condition all none. condition-fits types vars entries all condition none
