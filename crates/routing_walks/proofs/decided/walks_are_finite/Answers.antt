use Rattle.routing_walks.proofs.DecidedWalks.{walk_ends}
use Rattle.routing_walks.proofs.DecidedStores.{dests, part_of, rest_of}
use Rattle.routing_walks.proofs.decided.walks_are_finite.Goals as goal

pub returns : goal.returns
returns c = record { ends = walk_ends; destinations = dests; parts = part_of; rests = rest_of }
