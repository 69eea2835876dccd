use Rattle.std.proofs.Common.{◌≤◌, ◌+◌, ◌-◌, length}
use Rattle.bdd_nodes.specs.Roots.{number_of}
use Rattle.bdd_nodes.specs.Between.{IsBetween}
use Rattle.bdd_nodes.proofs.roots.bounds_of.Given as goal

abbrev pub invariant-loop-back : goal.invariant-loop-back
invariant-loop-back l = record {
  between : IsBetween l.tables (number_of l.id) 0 l.high;
  some : 1 ≤ l.back;
  before : length l.tables + 1 ≤ l.high + l.back;
}

abbrev pub decreases-loop-back : goal.decreases-loop-back
decreases-loop-back l = length l.tables + 1 - l.back
