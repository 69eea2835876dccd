use Rattle.triple_meaning.proofs.failing.FailingLemmas.{failing-first, site-meets}
use Rattle.triple_meaning.proofs.failing.SettledLemmas.{satisfied-fails, first-fails}
use Rattle.triple_meaning.proofs.failing.sites_mean_failing.Goals as goal

pub returns : goal.returns
returns c = record {
  fails = λ types vars t a s why line posed over meets failing. failing-first types vars t posed a s over meets.start why line failing;
  meets = λ types vars t a s site posed over satisfied. site-meets types vars t posed a s over site satisfied;
  some = λ types vars t a s site posed over satisfied. satisfied-fails types vars t posed a s over site satisfied;
  first = λ types vars t a s why line posed over first. first-fails types vars t posed a s over why line first;
}
