use Rattle.routing_walks.specs.Gathering.{Gathers, Before}
use Rattle.witness_store.proofs.FindingLemmas.{PointingAt}
use Rattle.witness_store.proofs.finding.push_pointings.Given as goal

-- those of the fields so far
abbrev pub invariant-loop-index : goal.invariant-loop-index
invariant-loop-index l = Gathers l.initial.found.items l.found.items (Before (PointingAt l.types l.store l.cell l.ty) l.index)
