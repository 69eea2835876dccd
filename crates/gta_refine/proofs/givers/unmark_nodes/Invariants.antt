use Rattle.gta_refine.proofs.ScratchLemmas.{NodesUnmarkedBelow}
use Rattle.gta_refine.proofs.givers.unmark_nodes.Given as goal

abbrev pub invariant-loop-listed : goal.invariant-loop-listed
invariant-loop-listed l = NodesUnmarkedBelow l.fn.marks.items l.list l.marks.items l.listed-index
