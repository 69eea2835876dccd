use Rattle.triple_judge.proofs.ExistenceLemmas.{judged-somehow}
use Rattle.triple_judge.proofs.laws.triples_are_valid_or_a_least_store_fails.Goals as goal

pub returns : goal.returns
returns c = judged-somehow
