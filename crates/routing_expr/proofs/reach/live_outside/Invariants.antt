use Rattle.routing_walks.specs.Sets.{Has, Lists}
use Rattle.routing_expr.proofs.ReachLemmas.{IsTakenOfFirst}
use Rattle.routing_expr.proofs.reach.live_outside.Given as goal

abbrev pub invariant-loop-place : goal.invariant-loop-place
invariant-loop-place l = Lists (IsTakenOfFirst l.store (Has l.left) l.place) l.cells
