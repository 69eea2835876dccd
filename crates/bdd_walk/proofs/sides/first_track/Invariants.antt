use Rattle.std.proofs.Common.{take}
use Rattle.bdd_walk.specs.Sides.{IsFirstOf}
use Rattle.bdd_walk.proofs.sides.first_track.Given as goal

-- the first track that is asked so far
abbrev pub invariant-loop-root : goal.invariant-loop-root
invariant-loop-root l = IsFirstOf l.shelf (take l.root-index l.roots) l.first
