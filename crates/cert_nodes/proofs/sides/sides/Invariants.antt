use Rattle.std.proofs.Common.{◌≡◌, map, take}
use Rattle.cert_nodes.specs.Spots.{side_at}
use Rattle.cert_nodes.proofs.sides.sides.Given as goal

-- the sides of the spots so far
abbrev pub invariant-loop-spot : goal.invariant-loop-spot
invariant-loop-spot l = l.sides.items ≡ map (side_at l.nodes l.dropped l.track l.bit) (take l.spot-index l.spots)
