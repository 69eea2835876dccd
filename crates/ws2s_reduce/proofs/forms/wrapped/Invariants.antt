use Rattle.std.proofs.Common.{◌≡◌}
use Rattle.ws2s_reduce.specs.Building.{wrapped}
use Rattle.ws2s_reduce.proofs.forms.wrapped.Given as goal

abbrev pub invariant-loop-left : goal.invariant-loop-left
invariant-loop-left l =
    wrapped l.fn.quantifier l.fn.first l.left l.formula ≡ wrapped l.fn.quantifier l.fn.first l.fn.names l.fn.inner

abbrev pub decreases-loop-left : goal.decreases-loop-left
decreases-loop-left l = l.left
