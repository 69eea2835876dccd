use Rattle.tree_store.proofs.StoreLemmas.{IsStoreOf-decoded}
use Rattle.tree_store.proofs.ExistenceLemmas.{store_of_finite}
use Rattle.tree_store.proofs.backbones.laid_out_trees_are_trees_of_backbones.Goals as goal

pub returns : goal.returns
returns c = record {
  some = store_of_finite;
  decoded = λ types vars a cells lays are. IsStoreOf-decoded types vars a cells lays are;
}
