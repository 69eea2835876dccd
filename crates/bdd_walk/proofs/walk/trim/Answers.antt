-- No results are right.
use Rattle.bdd_walk.proofs.WaitsLemmas.{IsMemo-none}
use Rattle.bdd_walk.proofs.walk.trim.Goals as goal

pub returns-then-len-most : goal.returns-then-len-most
returns-then-len-most g c = λ asked is_in shelf answers was. IsMemo-none _ asked is_in shelf answers _ c.new.ensures.empty
