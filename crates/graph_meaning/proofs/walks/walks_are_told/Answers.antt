use Rattle.graph_meaning.proofs.walks.SeenLemmas.{data_walk-means, all_walk-means}
use Rattle.graph_meaning.proofs.walks.walks_are_told.Goals as goal

pub returns : goal.returns
returns c = record {
  over_data = λ l view a first s t at count along shows known. data_walk-means l view a first s t at count shows along known;
  over_all = λ l view a first s t at count along wells known.
      all_walk-means l view a first s t at count wells.shows wells.table wells.well along known;
}
