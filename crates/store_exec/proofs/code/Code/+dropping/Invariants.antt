use Rattle.std.proofs.Common.{◌≤◌}
use Rattle.store_exec.specs.Dropping.{turning_weight, code_rank}
use Rattle.store_exec.proofs.code.Code.+dropping.Given as goal

abbrev pub decreases-into_items : goal.decreases-into_items
decreases-into_items l = 1

abbrev pub decreases-turned : goal.decreases-turned
decreases-turned l = 2

abbrev pub decreases-drop : goal.decreases-drop
decreases-drop l = code_rank l.self

abbrev pub invariant-drop-loop-items : goal.invariant-drop-loop-items
invariant-drop-loop-items l = code_rank l.self ≤ code_rank l.initial.self

abbrev pub decreases-drop-loop-items : goal.decreases-drop-loop-items
decreases-drop-loop-items l = turning_weight l.self
