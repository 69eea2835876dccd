use Rattle.graph_meaning.proofs.cuts.LeakLemmas.{leaks-means}
use Rattle.graph_meaning.proofs.cuts.leaks_are_told.Goals as goal

pub returns : goal.returns
returns c = λ l view a b first s at count next wells. leaks-means l view a first s at count wells b next
