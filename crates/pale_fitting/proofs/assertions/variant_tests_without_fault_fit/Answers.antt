use Rattle.pale_fitting.proofs.TermFitLemmas.{variant-fits}
use Rattle.pale_fitting.proofs.assertions.variant_tests_without_fault_fit.Goals as goal

pub returns : goal.returns
returns c = λ types entries scope term colon variant stand none. variant-fits types entries scope stand term colon variant none
