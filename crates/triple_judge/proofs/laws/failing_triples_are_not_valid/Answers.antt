use Rattle.triple_judge.proofs.FailingLemmas.{not-valid}
use Rattle.triple_judge.proofs.laws.failing_triples_are_not_valid.Goals as goal

pub returns : goal.returns
returns c = not-valid
