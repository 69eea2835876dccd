use Rattle.graph_meaning.proofs.live.StandingLemmas.{Sits-seen}
use Rattle.graph_meaning.proofs.live.seen_cells_stand_apart.Goals as goal

pub returns : goal.returns
returns c = Sits-seen
