use Rattle.tree_store.proofs.WeighingLemmas.{weight-cells}
use Rattle.tree_store.proofs.laws.weights_count_cells.Goals as goal

pub returns : goal.returns
returns c = weight-cells
