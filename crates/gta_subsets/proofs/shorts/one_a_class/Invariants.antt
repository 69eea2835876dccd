use Rattle.std.proofs.Common.{take}
use Rattle.gta_subsets.proofs.ShortsLemmas.{Shortens}
use Rattle.gta_subsets.proofs.shorts.one_a_class.Given as goal

abbrev pub invariant-loop-state : goal.invariant-loop-state
invariant-loop-state l = Shortens l.classes (take l.state-index l.set) l.seen l.short
