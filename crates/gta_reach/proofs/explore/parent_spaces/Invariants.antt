use Rattle.std.proofs.Common.{ℕ}
use Rattle.gta_classes.specs.Lists.{list_at}
use Rattle.gta_reach.specs.Exploring.{AreSpaces}
use Rattle.gta_reach.proofs.explore.parent_spaces.Given as goal

abbrev pub invariant-loop-s : goal.invariant-loop-s
invariant-loop-s l = (s : ℕ) → AreSpaces l.form (list_at l.parents.items s)
