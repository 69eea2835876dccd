use Rattle.gta_classes.proofs.ListsLemmas.{OnceBelow}
use Rattle.gta_classes.proofs.lists.distinct.Given as goal

abbrev pub invariant-loop-number : goal.invariant-loop-number
invariant-loop-number l = OnceBelow l.numbers l.seen.items l.once.items l.number-index
