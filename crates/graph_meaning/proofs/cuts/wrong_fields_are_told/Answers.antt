use Rattle.graph_meaning.proofs.cuts.WrongLemmas.{wrong-means}
use Rattle.graph_meaning.proofs.cuts.wrong_fields_are_told.Goals as goal

pub returns : goal.returns
returns c = λ l view a b first s at count next wells. wrong-means l view a first s at count wells b next
