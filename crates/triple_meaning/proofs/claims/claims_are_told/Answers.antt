use Rattle.triple_meaning.proofs.claims.ClaimLemmas.{region-means}
use Rattle.triple_meaning.proofs.claims.claims_are_told.Goals as goal

pub returns : goal.returns
returns c = λ l view a b first s at count next part it wells agrees few given fits.
    region-means l view a first s at count wells b next agrees few it.assertion fits part it.region given
