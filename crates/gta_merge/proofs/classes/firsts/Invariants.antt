use Rattle.gta_merge.proofs.FirstsLemmas.{FirstsBelow}
use Rattle.gta_merge.proofs.classes.firsts.Given as goal

abbrev pub invariant-loop-state : goal.invariant-loop-state
invariant-loop-state l = FirstsBelow l.had l.firsts l.seen l.state
