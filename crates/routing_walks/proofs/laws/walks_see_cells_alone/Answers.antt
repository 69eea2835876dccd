use Rattle.routing_walks.proofs.AloneLemmas.{Walk-same_cells}
use Rattle.routing_walks.proofs.laws.walks_see_cells_alone.Goals as goal

pub returns : goal.returns
returns c = Walk-same_cells
