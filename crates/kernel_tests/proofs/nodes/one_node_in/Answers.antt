use Rattle.kernel_tests.proofs.nodes.one_node_in.Goals as goal

pub make-requires-clause-low : goal.make-requires-clause-low
make-requires-clause-low g c = c.leaf-three.ensures.side _ _

pub make-requires-clause-high : goal.make-requires-clause-high
make-requires-clause-high g c = c.leaf-last.ensures.side _ _
