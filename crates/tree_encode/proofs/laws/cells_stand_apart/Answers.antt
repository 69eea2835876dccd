use Rattle.tree_encode.proofs.ApartLemmas.{one-position, placed-apart}
use Rattle.tree_encode.proofs.laws.cells_stand_apart.Goals as goal

pub returns : goal.returns
returns c = record { one_position = one-position; one_cell = placed-apart }
