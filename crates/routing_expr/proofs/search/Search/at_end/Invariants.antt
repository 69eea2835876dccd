use Rattle.std.proofs.Common.{[]}
use Rattle.routing_walks.specs.Gathering.{Gathers, Before}
use Rattle.routing_expr.specs.Spots.{IsAtEnd}
use Rattle.routing_expr.proofs.SpotLemmas.{SpotCell}
use Rattle.routing_expr.proofs.search.Search.at_end.Given as goal

-- the cells of the spots so far that are at the end
abbrev pub invariant-loop-spot : goal.invariant-loop-spot
invariant-loop-spot l = Gathers [] l.cells.items (Before (SpotCell l.spot-items (IsAtEnd l.self.store.now l.target)) l.spot-index)
