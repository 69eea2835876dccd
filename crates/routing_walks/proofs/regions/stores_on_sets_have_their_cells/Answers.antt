use Rattle.routing_walks.proofs.RegionLemmas.{store_on-IsOn}
use Rattle.routing_walks.proofs.regions.stores_on_sets_have_their_cells.Goals as goal

pub returns : goal.returns
returns c = store_on-IsOn
