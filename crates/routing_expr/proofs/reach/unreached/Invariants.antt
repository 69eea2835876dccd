use Rattle.routing_expr.specs.Reached.{IsReach, size_of}
use Rattle.routing_expr.proofs.reach.unreached.Given as goal

abbrev pub invariant-loop-cell : goal.invariant-loop-cell
invariant-loop-cell l = IsReach l.types l.vars l.store l.roots l.reach

abbrev pub decreases-loop-cell : goal.decreases-loop-cell
decreases-loop-cell l = size_of l.reach
