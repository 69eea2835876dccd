use Rattle.pale_types.proofs.FittingLemmas.{program-fits}
use Rattle.pale_types.proofs.laws.programs_without_fault_fit.Goals as goal

pub returns : goal.returns
returns c = program-fits
