use Rattle.store_trace.proofs.KeptStores.{code-keeps}
use Rattle.store_trace.proofs.laws.traces_keep_stores_fitting.Goals as goal

pub returns : goal.returns
returns c = λ types vars code s t shown end fits fresh known h.
    let well = code-keeps types vars code known s t shown end (record { fits = fits; fresh = fresh }) h in (well.fits, well.fresh)
