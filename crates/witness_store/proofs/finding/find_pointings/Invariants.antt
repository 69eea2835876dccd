use Rattle.std.proofs.Common.{[]}
use Rattle.routing_walks.specs.Gathering.{Gathers, Before}
use Rattle.witness_store.proofs.FindingLemmas.{PointingOf}
use Rattle.witness_store.proofs.finding.find_pointings.Given as goal

-- those of the cells so far
abbrev pub invariant-loop-place : goal.invariant-loop-place
invariant-loop-place l = Gathers [] l.found.items (Before (PointingOf l.types l.store) l.place)
