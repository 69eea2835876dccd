use Rattle.std.proofs.Common.{take}
use Rattle.ws2s_narrow.proofs.HandingLemmas.{Halfway}
use Rattle.ws2s_narrow.proofs.pending.Pending.part_with_used.Given as goal

abbrev pub invariant-loop-track : goal.invariant-loop-track
invariant-loop-track l = Halfway l.initial.self (take l.track-index l.tracks) l.self l.gone
