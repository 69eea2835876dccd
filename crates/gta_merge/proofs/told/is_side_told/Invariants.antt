use Rattle.gta_merge.specs.Lines.{root_beside}
use Rattle.gta_merge.specs.Told.{ShareClasses}
use Rattle.gta_merge.proofs.told.is_side_told.Given as goal

abbrev pub invariant-loop-place : goal.invariant-loop-place
invariant-loop-place l = ShareClasses (root_beside l.shelf l.a l.space l.side) l.states l.classes
