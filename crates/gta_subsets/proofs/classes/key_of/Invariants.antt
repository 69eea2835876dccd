use Rattle.std.proofs.Common.{◌≡◌, map, take, slice_index}
use Rattle.gta_subsets.proofs.classes.key_of.Given as goal

abbrev pub invariant-loop-state : goal.invariant-loop-state
invariant-loop-state l = l.classes ≡ map (slice_index l.states) (take l.state-index l.set)
