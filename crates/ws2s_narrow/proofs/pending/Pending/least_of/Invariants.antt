use Rattle.std.proofs.Common.{take}
use Rattle.ws2s_narrow.specs.Pending.{IsLeastAmong}
use Rattle.ws2s_narrow.proofs.pending.Pending.least_of.Given as goal

abbrev pub invariant-loop-track : goal.invariant-loop-track
invariant-loop-track l = IsLeastAmong (take l.track-index l.tracks) l.self.waiting.entries l.least
