use Rattle.std.proofs.Common.{◌-◌, length}
use Rattle.tree_store.specs.Growing.{IsGrown}
use Rattle.tree_store.proofs.grow.grown.Given as goal

abbrev pub invariant-loop-spot : goal.invariant-loop-spot
invariant-loop-spot l = IsGrown l.l.types l.l.vars l.store l.rows l.spots l.nodes

abbrev pub decreases-loop-spot : goal.decreases-loop-spot
decreases-loop-spot l = 4294967295 - length l.nodes
