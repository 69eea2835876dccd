use Rattle.store_claims.proofs.Meeting.{claim-told}
use Rattle.store_claims.proofs.laws.formulas_of_claims_mean_them.Goals as goal

pub returns : goal.returns
returns c = λ types vars s a claim table well fits of finite. claim-told types vars claim fits table s a well finite of
