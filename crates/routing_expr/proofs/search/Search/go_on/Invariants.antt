use Rattle.routing_walks.specs.Gathering.{Grows, Before}
use Rattle.routing_expr.specs.Searches.{fields_in}
use Rattle.routing_expr.proofs.SpotLemmas.{EdgeSpot}
use Rattle.routing_expr.proofs.search.Search.go_on.Given as goal

-- the spots by the edges so far are added
abbrev pub invariant-loop-edge : goal.invariant-loop-edge
invariant-loop-edge l =
    Grows l.fn.spots.keys l.spots.keys (Before (EdgeSpot l.self.types.now l.self.store.now (fields_in l.self.followed) l.edge-items l.spot.cell) l.edge-index)
