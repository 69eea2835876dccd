use Rattle.std.proofs.Common.{◌↔◌}
use Rattle.store_core.specs.declared.ids.CellId.{CellId}
use Rattle.routing_walks.specs.Sets.{Has}
use Rattle.routing_expr.specs.Naming.{IsNamedBelow, IsNamedTwiceBelow}
use Rattle.routing_expr.proofs.shared.named_twice.Given as goal

abbrev pub invariant-loop-place : goal.invariant-loop-place
invariant-loop-place l = record {
  once : (c : CellId) → Has l.named.once c ↔ IsNamedBelow l.types l.vars l.store l.places l.place-index c;
  twice : (c : CellId) → Has l.named.twice c ↔ IsNamedTwiceBelow l.types l.vars l.store l.places l.place-index c;
}
