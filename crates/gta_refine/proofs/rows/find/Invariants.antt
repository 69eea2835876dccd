use Rattle.std.proofs.Common.{length}
use Rattle.gta_refine.specs.Rows.{row_of}
use Rattle.gta_refine.proofs.FirstsLemmas.{HasPassed}
use Rattle.gta_refine.proofs.rows.find.Given as goal

abbrev pub invariant-loop-link : goal.invariant-loop-link
invariant-loop-link l =
    HasPassed (row_of l.space l.side l.numbers l.beside) l.firsts.states.items (length l.firsts.buckets.items) l.state l.link

abbrev pub decreases-loop-link : goal.decreases-loop-link
decreases-loop-link l = l.link
