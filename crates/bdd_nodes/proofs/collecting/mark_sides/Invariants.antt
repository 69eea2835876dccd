use Rattle.bdd_nodes.specs.Collecting.{MarksSides}
use Rattle.bdd_nodes.proofs.collecting.mark_sides.Given as goal

abbrev pub invariant-loop-index : goal.invariant-loop-index
invariant-loop-index l = MarksSides l.nodes l.initial.marks l.marks l.index
