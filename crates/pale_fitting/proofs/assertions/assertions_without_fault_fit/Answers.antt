use Rattle.pale_fitting.proofs.AssertionFitLemmas.{assertion-fits}
use Rattle.pale_fitting.proofs.assertions.assertions_without_fault_fit.Goals as goal

pub returns : goal.returns
returns c = λ v entries scope a names stand preds none. assertion-fits v names a entries scope stand preds none
