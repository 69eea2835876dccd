use Rattle.routing_walks.specs.Gathering.{Grows, Before}
use Rattle.routing_expr.proofs.SpotLemmas.{CellSpot}
use Rattle.routing_expr.proofs.search.Search.go_along.Given as goal

-- the spots with the cells so far are added
abbrev pub invariant-loop-cell : goal.invariant-loop-cell
invariant-loop-cell l = Grows l.fn.spots.keys l.spots.keys (Before (CellSpot l.cell-items l.edge.to) l.cell-index)
