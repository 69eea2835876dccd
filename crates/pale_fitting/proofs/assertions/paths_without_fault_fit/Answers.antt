use Rattle.pale_fitting.proofs.TermFitLemmas.{path-fits}
use Rattle.pale_fitting.proofs.assertions.paths_without_fault_fit.Goals as goal

pub returns : goal.returns
returns c = λ types entries scope path stand none. path-fits types entries scope stand path none
