use Rattle.gta_classes.proofs.CutLemmas.{ListsNew}
use Rattle.gta_classes.proofs.cutting.list_new.Given as goal

abbrev pub invariant-loop-state : goal.invariant-loop-state
invariant-loop-state l = ListsNew l.order l.before l.part l.fn.lists.items l.lists.items l.state-index
