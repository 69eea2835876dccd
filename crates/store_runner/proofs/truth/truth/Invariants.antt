use Rattle.std.proofs.Common.{◌≡◌, ◌+◌}
use Rattle.store_logic.specs.PostfixConds.{form_count}
use Rattle.store_exec.specs.Steps.{truth_of}
use Rattle.store_runner.specs.Conditions.{resumed, weight_of}
use Rattle.store_runner.proofs.truth.truth.Given as goal

abbrev pub invariant-loop-waiting : goal.invariant-loop-waiting
invariant-loop-waiting l = truth_of l.store l.fn.cond ≡ resumed l.store l.waiting (truth_of l.store l.cond)

abbrev pub decreases-loop-waiting : goal.decreases-loop-waiting
decreases-loop-waiting l = form_count l.cond + weight_of l.waiting
