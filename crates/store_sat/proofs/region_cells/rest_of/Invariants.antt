use Rattle.std.proofs.Common.{Contains}
use Rattle.routing_walks.specs.Sets.{Lists}
use Rattle.routing_expr.proofs.ReachLemmas.{IsTakenOfFirst}
use Rattle.store_sat.proofs.region_cells.rest_of.Given as goal

abbrev pub invariant-loop-place : goal.invariant-loop-place
invariant-loop-place l = Lists (IsTakenOfFirst l.store (Contains l.cells) l.place) l.rest
