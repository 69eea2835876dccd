use Rattle.witness_store.proofs.AlikeLemmas.{AreAlike-same}
use Rattle.witness_store.proofs.pointer_laws.pointers_dont_count.Goals as goal

pub returns : goal.returns
returns c = AreAlike-same
