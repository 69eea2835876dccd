use Rattle.routing_walks.proofs.RegionLemmas.{walks_alike}
use Rattle.routing_walks.proofs.regions.walks_see_their_set_alone.Goals as goal

pub returns : goal.returns
returns c = walks_alike
