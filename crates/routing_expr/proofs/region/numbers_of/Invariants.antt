use Rattle.std.proofs.Common.{◌↔◌}
use Rattle.store_core.specs.declared.ids.CellId.{CellId}
use Rattle.routing_walks.specs.Sets.{Has}
use Rattle.routing_expr.proofs.RegionLemmas.{IsOneBelow}
use Rattle.routing_expr.proofs.region.numbers_of.Given as goal

abbrev pub invariant-loop-cell : goal.invariant-loop-cell
invariant-loop-cell l = (c : CellId) → Has l.numbers c ↔ IsOneBelow l.cells l.cell-index c
