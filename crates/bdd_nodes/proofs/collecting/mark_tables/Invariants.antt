use Rattle.std.proofs.Common.{take}
use Rattle.bdd_nodes.specs.Collecting.{MarksList, all_roots}
use Rattle.bdd_nodes.proofs.collecting.mark_tables.Given as goal

abbrev pub invariant-loop-table : goal.invariant-loop-table
invariant-loop-table l = MarksList (all_roots (take l.table-index l.tables)) l.initial.marks l.marks
