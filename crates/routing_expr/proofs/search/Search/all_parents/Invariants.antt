use Rattle.std.proofs.Common.{[]}
use Rattle.routing_walks.specs.Gathering.{Gathers, Before}
use Rattle.routing_expr.proofs.StepLemmas.{LinkOf, IsData}
use Rattle.routing_expr.proofs.search.Search.all_parents.Given as goal

-- the parents by the links so far
abbrev pub invariant-loop-link : goal.invariant-loop-link
invariant-loop-link l = Gathers [] l.parents.items (Before (LinkOf l.link-items (IsData l.self.types.now)) l.link-index)
