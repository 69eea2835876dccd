use Rattle.std.proofs.Common.{◌≡◌}
use Rattle.ws2s_reduce.specs.Answer.{free_from}
use Rattle.ws2s_reduce.proofs.reduction.tracks.Given as goal

abbrev pub invariant-loop-track : goal.invariant-loop-track
invariant-loop-track l = l.tracks ≡ free_from 0 l.track
