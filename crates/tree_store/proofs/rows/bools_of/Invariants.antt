use Rattle.tree_store.specs.Rows.{AreBools}
use Rattle.tree_store.proofs.rows.bools_of.Given as goal

abbrev pub invariant-loop-index : goal.invariant-loop-index
invariant-loop-index l = AreBools l.l.types l.ty l.index l.bools
