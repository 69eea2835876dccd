use Rattle.routing_expr.proofs.ReachLemmas.{IsRootBelow}
use Rattle.routing_expr.specs.Reached.{Reaches}
use Rattle.routing_expr.proofs.reach.Reach.add_roots.Given as goal

abbrev pub invariant-loop-root : goal.invariant-loop-root
invariant-loop-root l = Reaches (IsRootBelow l.types l.vars l.store l.roots l.root-index) l.initial.self l.self
