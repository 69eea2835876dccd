use Rattle.kernel_tests.proofs.nodes.decision.Goals as goal

pub make-requires-clause-low : goal.make-requires-clause-low
make-requires-clause-low c = c.leaf-zero.ensures.side _ _

pub make-requires-clause-high : goal.make-requires-clause-high
make-requires-clause-high c = c.leaf-one.ensures.side _ _
