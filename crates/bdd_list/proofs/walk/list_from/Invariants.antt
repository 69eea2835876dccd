use Rattle.std.specs.Prelude.{◌+◌, slice_index_or}
use Rattle.bdd_list.specs.Waits.{Works, stack_cost, turn_cost}
use Rattle.bdd_list.proofs.walk.list_from.Given as goal

abbrev pub invariant-loop-turn : goal.invariant-loop-turn
invariant-loop-turn l =
    Works (record { shelf = l.shelf; roots = l.roots; before = l.fn.nodes.items; whole = slice_index_or l.roots l.index (record { word = 0 }) })
    l.nodes.items l.memo l.stack l.turn

abbrev pub decreases-loop-turn : goal.decreases-loop-turn
decreases-loop-turn l = turn_cost l.turn + stack_cost l.stack
