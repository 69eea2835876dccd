use Rattle.std.proofs.Common.{◌≡◌, ◌++◌, map, take}
use Rattle.bdd_walk.specs.Sides.{side_at}
use Rattle.bdd_walk.proofs.sides.push_sides.Given as goal

-- the sides of the references so far
abbrev pub invariant-loop-root : goal.invariant-loop-root
invariant-loop-root l = l.sides.items ≡ l.fn.sides.items ++ map (side_at l.shelf l.track l.bit) (take l.root-index l.roots)
