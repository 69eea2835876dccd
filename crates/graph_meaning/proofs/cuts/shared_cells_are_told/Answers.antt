use Rattle.graph_meaning.proofs.cuts.SharedLemmas.{shares-means}
use Rattle.graph_meaning.proofs.cuts.shared_cells_are_told.Goals as goal

pub returns : goal.returns
returns c = λ l view a b first s at count next wells. shares-means l view a first s at count wells b next
