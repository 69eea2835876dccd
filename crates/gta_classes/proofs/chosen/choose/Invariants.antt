use Rattle.gta_classes.proofs.ChosenLemmas.{ChosenBelow}
use Rattle.gta_classes.proofs.chosen.choose.Given as goal

abbrev pub invariant-loop-state : goal.invariant-loop-state
invariant-loop-state l = ChosenBelow l.classes l.reached l.seen.items l.chosen.items l.state
