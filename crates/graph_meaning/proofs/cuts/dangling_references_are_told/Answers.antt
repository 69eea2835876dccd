use Rattle.graph_meaning.proofs.cuts.DanglingLemmas.{dangles-means}
use Rattle.graph_meaning.proofs.cuts.dangling_references_are_told.Goals as goal

pub returns : goal.returns
returns c = λ l view a b first s at count next wells. dangles-means l view a first s at count wells b next
