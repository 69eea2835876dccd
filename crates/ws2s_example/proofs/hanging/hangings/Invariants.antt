use Rattle.std.proofs.Common.{◌*◌}
use Rattle.ws2s_example.proofs.HangingLemmas.{HangingsSoFar}
use Rattle.ws2s_example.proofs.hanging.hangings.Given as goal

abbrev pub invariant-loop-place : goal.invariant-loop-place
invariant-loop-place l = HangingsSoFar l.nodes (2 * l.place) l.hangings.items
