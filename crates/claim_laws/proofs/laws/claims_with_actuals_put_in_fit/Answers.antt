use Rattle.claim_laws.proofs.PutLemmas.{puts-fit}
use Rattle.claim_laws.proofs.laws.claims_with_actuals_put_in_fit.Goals as goal

pub returns : goal.returns
returns c = puts-fit
