use Rattle.std.proofs.Common.{take}
use Rattle.bdd_nodes.specs.Collecting.{MarksList}
use Rattle.bdd_nodes.proofs.collecting.mark_list.Given as goal

abbrev pub invariant-loop-root : goal.invariant-loop-root
invariant-loop-root l = MarksList (take l.root-index l.roots) l.initial.marks l.marks
