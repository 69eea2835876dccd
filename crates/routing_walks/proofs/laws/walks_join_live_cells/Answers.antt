use Rattle.routing_walks.proofs.LiveLemmas.{Walk-live}
use Rattle.routing_walks.proofs.laws.walks_join_live_cells.Goals as goal

pub returns : goal.returns
returns c = λ types s fields along a b. Walk-live types s fields along a b
