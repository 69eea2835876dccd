use Rattle.gta_merge.specs.Lines.{root_beside}
use Rattle.gta_merge.proofs.ClassesLemmas.{Classing}
use Rattle.gta_merge.proofs.classes.classify.Given as goal

abbrev pub invariant-loop-state : goal.invariant-loop-state
invariant-loop-state l =
    Classing (root_beside l.shelf l.a l.space l.side) l.had l.others l.lines.classes l.lines.ones l.lines.known l.of l.state
