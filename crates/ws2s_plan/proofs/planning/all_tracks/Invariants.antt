use Rattle.std.proofs.Common.{◌≡◌, ◌++◌, map, take}
use Rattle.ws2s_plan.proofs.planning.all_tracks.Given as goal

abbrev pub invariant-loop-number : goal.invariant-loop-number
invariant-loop-number l = l.tracks ≡ l.fn.weigh ++ map (λ k. record { 0 = k }) (take l.number-index l.free)
