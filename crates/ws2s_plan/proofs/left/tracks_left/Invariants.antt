use Rattle.std.proofs.Common.{◌≡◌, not, filter, take}
use Rattle.ws2s_plan.specs.Plan.{is_gone}
use Rattle.ws2s_plan.proofs.left.tracks_left.Given as goal

abbrev pub invariant-loop-track : goal.invariant-loop-track
invariant-loop-track l = l.left ≡ filter (λ t. not (is_gone l.fn.eliminations t)) (take l.track-index l.tracks)
