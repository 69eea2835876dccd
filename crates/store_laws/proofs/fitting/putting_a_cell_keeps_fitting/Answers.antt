use Rattle.store_laws.proofs.FitsLemmas.{Fits-put_cell}
use Rattle.store_laws.proofs.fitting.putting_a_cell_keeps_fitting.Goals as goal

pub returns : goal.returns
returns c = Fits-put_cell
