use Rattle.triple_meaning.proofs.failing.SiteLemmas.{satisfied-over}
use Rattle.triple_meaning.proofs.failing.satisfied_sites_have_well_formed_stores.Goals as goal

pub returns : goal.returns
returns c = λ types vars t a site posed finite satisfied. satisfied-over types vars t posed a finite site satisfied
