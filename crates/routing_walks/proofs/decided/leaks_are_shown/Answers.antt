use Rattle.routing_walks.proofs.DecidedStores.{leak_set, set_leaks}
use Rattle.routing_walks.proofs.decided.leaks_are_shown.Goals as goal

pub returns : goal.returns
returns c = λ types vars s c. (leak_set types vars s c, set_leaks types vars s c)
