use Rattle.tree_encode.specs.Counting.{is_data_var}
use Rattle.tree_store.specs.Rows.{AreNumbered, var_number}
use Rattle.tree_store.proofs.rows.slot_vars.Given as goal

abbrev pub invariant-loop-index : goal.invariant-loop-index
invariant-loop-index l = AreNumbered is_data_var var_number l.l.vars l.index l.slots
