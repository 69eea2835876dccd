use Rattle.gta_refine.proofs.ClimbLemmas.{AddsBelow}
use Rattle.gta_refine.proofs.givers.add_nodes.Given as goal

abbrev pub invariant-loop-node : goal.invariant-loop-node
invariant-loop-node l = AddsBelow l.nodes l.fn.found.items l.fn.list.items l.found.items l.list.items l.node-index
