use Rattle.store_laws.proofs.FitsLemmas.{Fits-remove_cell}
use Rattle.store_laws.proofs.fitting.removing_a_cell_keeps_fitting.Goals as goal

pub returns : goal.returns
returns c = Fits-remove_cell
