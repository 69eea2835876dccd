use Rattle.gta_minimise.proofs.MarksLemmas.{TouchedBelow}
use Rattle.gta_minimise.proofs.marks.mark_roots.Given as goal

abbrev pub invariant-loop-root : goal.invariant-loop-root
invariant-loop-root l = TouchedBelow l.roots l.fn.marks.items l.marks.items l.root-index
