use Rattle.std.proofs.Common.{take}
use Rattle.ws2s_example.specs.Texts.{AllAscend, Notes}
use Rattle.ws2s_example.proofs.sets.note.Given as goal

abbrev pub invariant-loop-track : goal.invariant-loop-track
invariant-loop-track l = Notes (take l.track-index l.tracks) l.text l.fn.sets.items l.sets.items × AllAscend l.sets.items
