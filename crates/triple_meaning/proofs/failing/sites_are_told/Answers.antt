use Rattle.triple_meaning.proofs.failing.SiteLemmas.{site-told}
use Rattle.triple_meaning.proofs.failing.sites_are_told.Goals as goal

pub returns : goal.returns
returns c = λ types vars t a s site check posed over there. site-told types vars t posed a s over site check there
