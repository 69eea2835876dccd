use Rattle.store_core.proofs.FreshLemmas.{IsFresh-no_dead}
use Rattle.store_laws.proofs.freshness.stores_without_dead_names_are_fresh.Goals as goal

pub returns : goal.returns
returns c = IsFresh-no_dead
