use Rattle.std.proofs.Common.{[], reverse}
use Rattle.store_logic.specs.Satisfaction.{Says}
use Rattle.store_logic.specs.Terms.{outside}
use Rattle.triple_meaning.proofs.claims.MeaningLemmas.{assertion-means, none-bound}
use Rattle.triple_meaning.proofs.claims.assertions_are_told.Goals as goal

pub returns : goal.returns
returns c = record {
  inside = λ l view a b first s t at count own sorts e preds it wells agrees few bound fits.
      assertion-means l view a first s t at count wells (Says l.types t (reverse preds)) it own b sorts e agrees few bound fits;
  whole = λ l view a b first s t at count next preds it wells agrees few fits.
      assertion-means l view a first s t at count wells (Says l.types t (reverse preds)) it next b [] outside agrees few (none-bound at b next) fits;
}
