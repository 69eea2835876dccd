use Rattle.tree_store.proofs.HoldersLemmas.{backbone-lays}
use Rattle.tree_store.proofs.meaning.backbones_are_laid_out.Goals as goal

pub returns : goal.returns
returns c = backbone-lays
