use Rattle.gta_classes.proofs.MarksLemmas.{UnmarkedBelow}
use Rattle.gta_classes.proofs.chosen.unmark_all.Given as goal

abbrev pub invariant-loop-number : goal.invariant-loop-number
invariant-loop-number l = UnmarkedBelow l.fn.marks.items l.numbers l.marks.items l.number-index
