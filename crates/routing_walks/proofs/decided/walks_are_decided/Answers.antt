use Rattle.routing_walks.proofs.DecidedWalks.{decided_walk, decided_parent}
use Rattle.routing_walks.proofs.DecidedStores.{decided_dest}
use Rattle.routing_walks.proofs.decided.walks_are_decided.Goals as goal

pub returns : goal.returns
returns c = record { walks = decided_walk; parents = decided_parent; destinations = decided_dest }
