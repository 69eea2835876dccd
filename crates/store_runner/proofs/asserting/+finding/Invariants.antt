use Rattle.std.proofs.Common.{◌≡◌, ◌+◌, ◌*◌}
use Rattle.store_exec.specs.Acting.{acts_of, have_assert, code_count}
use Rattle.store_runner.proofs.asserting.+finding.Given as goal

abbrev pub decreases-find_within : goal.decreases-find_within
decreases-find_within l = 2 * l.calls + 1

abbrev pub decreases-find_in_simpler : goal.decreases-find_in_simpler
decreases-find_in_simpler l = 2 * l.calls

-- what is left has an `assert` where the whole has one
abbrev pub invariant-find_within-loop-rest : goal.invariant-find_within-loop-rest
invariant-find_within-loop-rest l = have_assert (acts_of l.rest) ≡ have_assert (acts_of l.code)

abbrev pub decreases-find_within-loop-rest : goal.decreases-find_within-loop-rest
decreases-find_within-loop-rest l = code_count l.rest
