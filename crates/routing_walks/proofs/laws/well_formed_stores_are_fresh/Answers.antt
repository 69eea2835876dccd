use Rattle.routing_walks.proofs.FreshLemmas.{IsFresh-well_formed}
use Rattle.routing_walks.proofs.laws.well_formed_stores_are_fresh.Goals as goal

pub returns : goal.returns
returns c = IsFresh-well_formed
