use Rattle.store_exec.proofs.OneEndLemmas.{Step-one, code-one}
use Rattle.store_exec.proofs.OneCauseLemmas.{AtCut-one, Fails-one}
use Rattle.store_exec.proofs.laws.runs_have_one_end.Goals as goal

pub returns : goal.returns
returns c = record {
  steps = λ types s a r q h k. Step-one types s a r q h k;
  codes = λ types code s out other h k. code-one types code s out other h k;
  cuts = λ types vars cut s why other h k. AtCut-one types vars cut s why other h k;
  triples = λ types vars triple s why other line at h k. Fails-one types vars triple s why other line at h k;
}
