use Rattle.std.proofs.Common.{[]}
use Rattle.routing_walks.specs.Gathering.{Gathers, Before}
use Rattle.field_judge.proofs.WeighedLemmas.{TrackIn}
use Rattle.field_judge.proofs.weighing.weighed.Given as goal

-- those of the types so far
abbrev pub invariant-loop-index : goal.invariant-loop-index
invariant-loop-index l = Gathers [] l.tracks (Before (TrackIn l.l.types) l.index)
