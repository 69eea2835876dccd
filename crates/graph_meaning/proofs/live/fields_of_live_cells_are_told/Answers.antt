use Rattle.graph_meaning.proofs.live.SeenLemmas.{seen-is_true, seen-data_names}
use Rattle.graph_meaning.proofs.live.fields_of_live_cells_are_told.Goals as goal

pub returns : goal.returns
returns c = record {
  bool = λ l view a b first s t at count next x p c f entry shows. seen-is_true l view a first s t at count shows f entry b next x p c;
  reference = λ l view a b first s t at count next x y p q c f entry target shows.
      seen-data_names l view a first s t at count shows f entry target b next x y p q c;
}
