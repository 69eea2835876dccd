use Rattle.gta_minimise.proofs.QuotientLemmas.{PairsBelow}
use Rattle.gta_minimise.proofs.quotient.roots_of_pairs.Given as goal

abbrev pub invariant-loop-index : goal.invariant-loop-index
invariant-loop-index l = PairsBelow l.space l.lefts l.rights l.roots.items l.index
