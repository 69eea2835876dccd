use Rattle.triple_meaning.proofs.claims.EscapeLemmas.{escapes-means}
use Rattle.triple_meaning.proofs.claims.escapes_are_told.Goals as goal

pub returns : goal.returns
returns c = λ l view a b first s at count next x roots inside wells agrees few given.
    escapes-means l view a first s at count wells b next x agrees few roots inside given
