use Rattle.routing_expr.specs.Machines.{IsPlan, arcs_of, parts_left}
use Rattle.routing_expr.proofs.machine.Machine.new.Given as goal

-- the plan means the route
abbrev pub invariant-loop-part : goal.invariant-loop-part
invariant-loop-part l = IsPlan l.route (arcs_of l.plan) l.plan.places

abbrev pub decreases-loop-part : goal.decreases-loop-part
decreases-loop-part l = parts_left l.plan
