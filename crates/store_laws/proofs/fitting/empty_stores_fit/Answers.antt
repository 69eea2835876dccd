use Rattle.store_laws.proofs.FitsLemmas.{Fits-empty}
use Rattle.store_laws.proofs.fitting.empty_stores_fit.Goals as goal

pub returns : goal.returns
returns c = Fits-empty
