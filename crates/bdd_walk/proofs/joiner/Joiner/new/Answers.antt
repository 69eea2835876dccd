use Rattle.bdd_walk.proofs.WaitsLemmas.{IsMemo-none}
use Rattle.bdd_walk.proofs.joiner.Joiner.new.Goals as goal

pub returns : goal.returns
returns c = λ dropped shelf answers. record {
  one = IsMemo-none _ _ _ shelf answers _ c.new.ensures;
  two = IsMemo-none _ _ _ shelf answers _ c.new-2.ensures;
  many = IsMemo-none _ _ _ shelf answers _ c.new-3.ensures;
}
