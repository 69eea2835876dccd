use Rattle.tree_store.proofs.WorkedLemmas.{list-laid_out, split-laid_out}
use Rattle.tree_store.proofs.meaning.small_layouts_are_laid_out.Goals as goal

pub returns : goal.returns
returns c = record { list = list-laid_out; split = split-laid_out }
