use Rattle.store_laws.proofs.FreshLemmas.{IsFresh-empty}
use Rattle.store_laws.proofs.freshness.empty_stores_are_fresh.Goals as goal

pub returns : goal.returns
returns c = IsFresh-empty
