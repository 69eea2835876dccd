use Rattle.routing_walks.specs.Gathering.{Before}
use Rattle.routing_walks.specs.Sets.{Lists}
use Rattle.routing_expr.proofs.SpotLemmas.{FirstCell}
use Rattle.routing_expr.proofs.search.list_of.Given as goal

-- the cells so far are listed
abbrev pub invariant-loop-cell : goal.invariant-loop-cell
invariant-loop-cell l = Lists (Before (FirstCell l.cell-items) l.cell-index) l.list
