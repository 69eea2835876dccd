use Rattle.routing_walks.proofs.RegionLemmas.{IsLikeOn-on}
use Rattle.routing_walks.proofs.regions.regions_keep_walks.Goals as goal

pub returns : goal.returns
returns c = IsLikeOn-on
