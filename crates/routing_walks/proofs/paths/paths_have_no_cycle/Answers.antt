use Rattle.routing_walks.proofs.PathLemmas.{no_cycle}
use Rattle.routing_walks.proofs.paths.paths_have_no_cycle.Goals as goal

pub returns : goal.returns
returns c = λ types vars s fields c backbone h. no_cycle types vars s backbone fields c h
