use Rattle.pale_fitting.proofs.DeclarationLemmas.{declarations-fit}
use Rattle.pale_fitting.proofs.declarations.declarations_without_fault_fit.Goals as goal

pub returns : goal.returns
returns c = declarations-fit
