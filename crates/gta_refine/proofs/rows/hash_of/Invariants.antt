use Rattle.gta_refine.proofs.RowsLemmas.{IsHashed}
use Rattle.gta_refine.proofs.rows.hash_of.Given as goal

abbrev pub invariant-loop-other : goal.invariant-loop-other
invariant-loop-other l = IsHashed l.space l.side l.numbers l.own l.beside l.other-index l.hash
