use Rattle.std.proofs.Common.{take}
use Rattle.gta_subsets.specs.Shorts.{AreShorts}
use Rattle.gta_subsets.proofs.shorts.shortened.Given as goal

abbrev pub invariant-loop-set : goal.invariant-loop-set
invariant-loop-set l = AreShorts l.classes (take l.set-index l.sets) l.shorts
