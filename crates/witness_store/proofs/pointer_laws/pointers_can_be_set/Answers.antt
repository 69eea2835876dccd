use Rattle.witness_store.proofs.ExistenceLemmas.{set_store}
use Rattle.witness_store.proofs.pointer_laws.pointers_can_be_set.Goals as goal

pub returns : goal.returns
returns c = set_store
