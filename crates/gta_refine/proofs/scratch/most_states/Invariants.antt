use Rattle.gta_refine.proofs.ScratchLemmas.{MostBelow}
use Rattle.gta_refine.proofs.scratch.most_states.Given as goal

abbrev pub invariant-loop-part : goal.invariant-loop-part
invariant-loop-part l = MostBelow l.spaces l.most l.part-index
