use Rattle.store_ends.proofs.CutLemmas.{cut-settled}
use Rattle.store_ends.proofs.laws.cuts_have_a_first_cause_or_none.Goals as goal

pub returns : goal.returns
returns c = λ types vars cut s fits. cut-settled types vars s cut fits
