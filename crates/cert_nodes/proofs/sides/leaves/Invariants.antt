use Rattle.std.proofs.Common.{◌≡◌, map, take}
use Rattle.cert_nodes.specs.Spots.{leaf_of}
use Rattle.cert_nodes.proofs.sides.leaves.Given as goal

-- the states of the spots so far
abbrev pub invariant-loop-spot : goal.invariant-loop-spot
invariant-loop-spot l = l.states ≡ map (λ spot. leaf_of spot.target) (take l.spot-index l.spots)
