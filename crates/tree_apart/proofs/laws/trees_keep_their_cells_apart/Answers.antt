use Rattle.tree_apart.proofs.ApartLemmas.{cells-apart}
use Rattle.tree_apart.proofs.laws.trees_keep_their_cells_apart.Goals as goal

pub returns : goal.returns
returns c = λ types vars next bound a owners few within finite sat. cells-apart types vars owners a finite next bound few within sat
