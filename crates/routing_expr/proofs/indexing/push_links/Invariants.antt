use Rattle.routing_walks.specs.Gathering.{Gathers, Before}
use Rattle.routing_expr.proofs.IndexLemmas.{LinkAt}
use Rattle.routing_expr.proofs.indexing.push_links.Given as goal

-- the links of the fields so far
abbrev pub invariant-loop-index : goal.invariant-loop-index
invariant-loop-index l = Gathers l.initial.links.items l.links.items (Before (LinkAt l.types l.store l.followed l.parent l.ty) l.index)
