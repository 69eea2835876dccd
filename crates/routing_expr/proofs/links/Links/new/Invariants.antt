use Rattle.std.proofs.Common.{[]}
use Rattle.routing_walks.specs.Gathering.{Gathers, Before}
use Rattle.routing_expr.proofs.IndexLemmas.{CellAt}
use Rattle.routing_expr.proofs.links.Links.new.Given as goal

-- the links of the cells so far
abbrev pub invariant-loop-place : goal.invariant-loop-place
invariant-loop-place l = Gathers [] l.links.items (Before (CellAt l.types l.store l.followed) l.place)
