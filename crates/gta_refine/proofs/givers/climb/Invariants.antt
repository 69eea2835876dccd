use Rattle.std.proofs.Common.{◌-◌, ◌^◌}
use Rattle.gta_refine.proofs.ClimbLemmas.{Climbs}
use Rattle.gta_refine.proofs.givers.climb.Given as goal

abbrev pub invariant-loop-at : goal.invariant-loop-at
invariant-loop-at l = Climbs l.nodes l.states l.parents.leaves l.parents.nodes l.found.items l.list.items l.at

abbrev pub decreases-loop-at : goal.decreases-loop-at
decreases-loop-at l = 2 ^ 64 - l.at
