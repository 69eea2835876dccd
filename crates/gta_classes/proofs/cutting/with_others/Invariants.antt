use Rattle.gta_classes.proofs.CutLemmas.{OthersBelow}
use Rattle.gta_classes.proofs.cutting.with_others.Given as goal

abbrev pub invariant-loop-state : goal.invariant-loop-state
invariant-loop-state l = OthersBelow l.part l.listed l.order.items l.state-index
