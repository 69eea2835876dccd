use Rattle.tree_store.specs.Rows.{AreRows}
use Rattle.tree_store.proofs.rows.type_rows.Given as goal

abbrev pub invariant-loop-index : goal.invariant-loop-index
invariant-loop-index l = AreRows l.l.types l.index l.rows
