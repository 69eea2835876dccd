use Rattle.routing_walks.specs.Gathering.{Gathers, Before}
use Rattle.field_judge.proofs.WeighedLemmas.{TrackAt}
use Rattle.field_judge.proofs.weighing.push_tracks.Given as goal

-- those of the variants so far
abbrev pub invariant-loop-index : goal.invariant-loop-index
invariant-loop-index l = Gathers l.initial.tracks l.tracks (Before (TrackAt l.l.types l.ty) l.index)
