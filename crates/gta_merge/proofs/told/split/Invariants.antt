use Rattle.gta_merge.specs.Lines.{root_beside}
use Rattle.gta_merge.proofs.ToldLemmas.{SplitBelow}
use Rattle.gta_merge.proofs.told.split.Given as goal

abbrev pub invariant-loop-place : goal.invariant-loop-place
invariant-loop-place l = SplitBelow (root_beside l.shelf l.a l.space l.side) l.states l.before l.other l.found l.classes l.place
