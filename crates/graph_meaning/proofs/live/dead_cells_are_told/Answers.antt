use Rattle.graph_meaning.proofs.live.SeenLemmas.{seen-is_dead}
use Rattle.graph_meaning.proofs.live.dead_cells_are_told.Goals as goal

pub returns : goal.returns
returns c = λ l view a b first s t at count next u o shows. seen-is_dead l view a first s t at count shows b next u o
