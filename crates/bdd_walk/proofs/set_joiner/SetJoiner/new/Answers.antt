use Rattle.bdd_walk.proofs.WaitsLemmas.{IsMemo-none}
use Rattle.bdd_walk.proofs.set_joiner.SetJoiner.new.Goals as goal

pub returns : goal.returns
returns c = λ dropped shelf answers. IsMemo-none _ _ _ shelf answers _ c.new.ensures
