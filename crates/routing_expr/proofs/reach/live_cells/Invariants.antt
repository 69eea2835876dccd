use Rattle.std.proofs.Common.{◌↔◌}
use Rattle.store_core.specs.declared.ids.CellId.{CellId}
use Rattle.routing_walks.specs.Sets.{Has}
use Rattle.routing_expr.proofs.ReachLemmas.{IsOneOfFirst}
use Rattle.routing_expr.proofs.reach.live_cells.Given as goal

abbrev pub invariant-loop-place : goal.invariant-loop-place
invariant-loop-place l = (c : CellId) → Has l.numbers c ↔ IsOneOfFirst l.store l.place c
