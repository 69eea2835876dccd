use Rattle.gta_refine.proofs.RowsLemmas.{SameBelow}
use Rattle.gta_refine.proofs.rows.have_same_row.Given as goal

abbrev pub invariant-loop-other : goal.invariant-loop-other
invariant-loop-other l = SameBelow l.space l.side l.numbers l.one l.two l.beside l.other-index
