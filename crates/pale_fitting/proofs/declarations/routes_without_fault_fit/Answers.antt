use Rattle.pale_fitting.proofs.RouteFitLemmas.{route-fits}
use Rattle.pale_fitting.proofs.declarations.routes_without_fault_fit.Goals as goal

pub returns : goal.returns
returns c = λ types names r of none. route-fits types names of r none
