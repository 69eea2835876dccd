use Rattle.store_exec.proofs.KeepLemmas.{Step-keeps}
use Rattle.store_exec.proofs.laws.acts_keep_stores_fitting.Goals as goal

pub returns : goal.returns
returns c = λ types vars s t a fits fresh ok step. let well = Step-keeps types vars s fits fresh a t ok step in (well.fits, well.fresh)
