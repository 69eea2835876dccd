use Rattle.gta_refine.proofs.NumbersLemmas.{StandBelow}
use Rattle.gta_refine.proofs.numbers.references.Given as goal

abbrev pub invariant-loop-index : goal.invariant-loop-index
invariant-loop-index l = StandBelow l.classes l.refs l.listed l.references l.index
