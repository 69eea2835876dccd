use Rattle.std.proofs.Common.{◌-◌}
use Rattle.bdd_nodes.specs.Roots.{number_of}
use Rattle.bdd_nodes.proofs.roots.position_of.Given as goal
use Rattle.bdd_nodes.specs.Between.{IsBetween}

abbrev pub invariant-loop-low : goal.invariant-loop-low
invariant-loop-low l = IsBetween l.tables (number_of l.id) l.low l.high

abbrev pub decreases-loop-low : goal.decreases-loop-low
decreases-loop-low l = l.high - l.low
