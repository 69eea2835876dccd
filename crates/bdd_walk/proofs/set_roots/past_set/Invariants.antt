use Rattle.std.proofs.Common.{◌≡◌, take, flat_map}
use Rattle.bdd_walk.specs.Sides.{both_at}
use Rattle.bdd_walk.proofs.set_roots.past_set.Given as goal

-- both sides of the references so far
abbrev pub invariant-loop-root : goal.invariant-loop-root
invariant-loop-root l = l.sides.items ≡ flat_map (both_at l.shelf l.track) (take l.root-index l.roots)
