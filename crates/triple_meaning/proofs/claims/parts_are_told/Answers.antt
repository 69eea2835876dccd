use Rattle.triple_meaning.proofs.claims.PartLemmas.{part-means, live-part-means, part-there}
use Rattle.triple_meaning.proofs.claims.parts_are_told.Goals as goal

pub returns : goal.returns
returns c = record {
  any = λ l view a b first s at count next x roots wells agrees few below known.
      part-means l view a first s at count wells roots known b next x agrees few below;
  live = λ l view a b first s at count next x roots wells agrees few below known live.
      live-part-means l view a first s at count wells roots known b next x agrees few below live;
  there = λ l view a b first s at count next x roots wells agrees few below known.
      part-there l view a first s at count wells roots known b next x agrees few below;
}
