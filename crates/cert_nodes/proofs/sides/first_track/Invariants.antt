use Rattle.std.proofs.Common.{take}
use Rattle.cert_nodes.specs.Spots.{IsFirstOf}
use Rattle.cert_nodes.proofs.sides.first_track.Given as goal

-- the first track that is asked so far
abbrev pub invariant-loop-spot : goal.invariant-loop-spot
invariant-loop-spot l = IsFirstOf l.nodes (take l.spot-index l.spots) l.first
