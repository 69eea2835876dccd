use Rattle.routing_walks.proofs.FunctionalLemmas.{Up-functional}
use Rattle.routing_walks.proofs.functional.ways_up_are_functional.Goals as goal

pub returns : goal.returns
returns c = Up-functional
