use Rattle.std.proofs.Common.{take}
use Rattle.gta_subsets.specs.Classes.{AreKeyed}
use Rattle.gta_subsets.proofs.classes.classify.Given as goal

abbrev pub invariant-loop-k : goal.invariant-loop-k
invariant-loop-k l = AreKeyed (take l.k l.sets) l.states l.of l.ones l.keys
