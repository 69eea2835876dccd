use Rattle.graph_meaning.proofs.walks.SeenLemmas.{names-told}
use Rattle.graph_meaning.proofs.walks.cell_fields_are_told.Goals as goal

pub returns : goal.returns
returns c = λ l view a b first s t at count next x y p q cell f entry wells.
    names-told l view a first s t at count wells.shows wells.table wells.well f entry b next x y p q cell
