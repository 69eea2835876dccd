use Rattle.std.proofs.Common.{◌≤◌}
use Rattle.store_logic.specs.Dropping.{turning_weight, dropping_rank}
use Rattle.store_logic.proofs.assertion.Assertion.+dropping.Given as goal

abbrev pub decreases-turned : goal.decreases-turned
decreases-turned l = 1

abbrev pub decreases-drop : goal.decreases-drop
decreases-drop l = dropping_rank l.self

abbrev pub invariant-drop-loop-self : goal.invariant-drop-loop-self
invariant-drop-loop-self l = dropping_rank l.self ≤ dropping_rank l.initial.self

abbrev pub decreases-drop-loop-self : goal.decreases-drop-loop-self
decreases-drop-loop-self l = turning_weight l.self
