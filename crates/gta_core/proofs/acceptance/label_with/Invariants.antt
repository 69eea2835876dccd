use Rattle.std.proofs.Common.{◌≡◌, take, map}
use Rattle.gta_core.proofs.acceptance.label_with.Given as goal

abbrev pub invariant-loop-track : goal.invariant-loop-track
invariant-loop-track l = l.numbers.items ≡ map (λ track. track.0) (take l.track-index l.tracks)
