use Rattle.witness_store.proofs.FunctionalLemmas.{IsWellFormed-set}
use Rattle.witness_store.proofs.laws.decoded_stores_are_well_formed.Goals as goal

pub returns : goal.returns
returns c = IsWellFormed-set
