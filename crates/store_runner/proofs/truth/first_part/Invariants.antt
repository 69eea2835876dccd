use Rattle.std.proofs.Common.{◌≡◌, ◌+◌}
use Rattle.store_logic.specs.PostfixConds.{form_count}
use Rattle.store_exec.specs.Steps.{truth_of}
use Rattle.store_runner.specs.Conditions.{resumed, weight_of}
use Rattle.store_runner.proofs.truth.first_part.Given as goal

abbrev pub invariant-loop-cond : goal.invariant-loop-cond
invariant-loop-cond l =
    (resumed l.store l.fn.waiting (truth_of l.store l.fn.cond) ≡ resumed l.store l.waiting (truth_of l.store l.cond))
    × (form_count l.cond + weight_of l.waiting ≡ form_count l.fn.cond + weight_of l.fn.waiting)

abbrev pub decreases-loop-cond : goal.decreases-loop-cond
decreases-loop-cond l = form_count l.cond
