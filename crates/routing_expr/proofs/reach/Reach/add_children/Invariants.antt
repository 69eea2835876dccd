use Rattle.routing_expr.proofs.ReachLemmas.{IsChildBelow}
use Rattle.routing_expr.specs.Reached.{Reaches}
use Rattle.routing_expr.proofs.reach.Reach.add_children.Given as goal

abbrev pub invariant-loop-index : goal.invariant-loop-index
invariant-loop-index l = Reaches (IsChildBelow l.types l.vars l.store l.cell l.index) l.initial.self l.self
