use Rattle.store_exec.proofs.CodesKeepLemmas.{code-keeps}
use Rattle.store_exec.proofs.laws.codes_keep_stores_fitting.Goals as goal

pub returns : goal.returns
returns c = λ types vars code s t place fits fresh known runs.
    let k = code-keeps types vars code s t place (record { fits = fits; fresh = fresh }) known runs in (k.well.fits, k.well.fresh, k.next)
