use Rattle.triple_meaning.proofs.claims.StartLemmas.{start-means}
use Rattle.triple_meaning.proofs.claims.starts_are_told.Goals as goal

pub returns : goal.returns
returns c = λ l a b first s at count next start wells agrees few returned on fits.
    start-means l a first s at count wells b next agrees few start returned on fits
