use Rattle.gta_refine.proofs.RefineLemmas.{SinglesBelow}
use Rattle.gta_refine.proofs.rounds.one_class_each.Given as goal

abbrev pub invariant-loop-s : goal.invariant-loop-s
invariant-loop-s l = SinglesBelow l.reached.items l.spaces.items l.s
