use Rattle.std.proofs.Common.{◌≡◌, ◌+◌, ◌*◌}
use Rattle.store_exec.specs.Acting.{acts_of_items, have_assert}
use Rattle.store_exec.specs.Going.{weight_of_items}
use Rattle.store_runner.proofs.asserting.+standing.Given as goal

abbrev pub decreases-stands_within : goal.decreases-stands_within
decreases-stands_within l = 3 * l.calls + 2

abbrev pub decreases-stands_in_first : goal.decreases-stands_in_first
decreases-stands_in_first l = 3 * l.calls + 1

abbrev pub decreases-stands_in_simpler : goal.decreases-stands_in_simpler
decreases-stands_in_simpler l = 3 * l.calls

-- what is left has an `assert` where the whole has one
abbrev pub invariant-stands_within-loop-item : goal.invariant-stands_within-loop-item
invariant-stands_within-loop-item l = have_assert (acts_of_items l.rest) ≡ have_assert (acts_of_items l.items)

abbrev pub decreases-stands_within-loop-item : goal.decreases-stands_within-loop-item
decreases-stands_within-loop-item l = weight_of_items l.rest
