use Rattle.witness_store.proofs.PairedLemmas.{ArePaired-decoded}
use Rattle.witness_store.proofs.laws.stores_come_back_from_their_trees.Goals as goal

pub returns : goal.returns
returns c = ArePaired-decoded
