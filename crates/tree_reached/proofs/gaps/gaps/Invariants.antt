use Rattle.std.proofs.Common.{◌≡◌, flat_map}
use Rattle.tree_formula.specs.WellEncoded.{named}
use Rattle.tree_reached.specs.ByField.{gap_at, number}
use Rattle.tree_reached.proofs.gaps.gaps.Given as goal

abbrev pub invariant-loop-gap : goal.invariant-loop-gap
invariant-loop-gap l = l.gaps.items ≡ flat_map (gap_at l.l.types l.ways) (named number l.gap)
