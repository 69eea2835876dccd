use Rattle.std.proofs.Common.{◌≤◌}
use Rattle.gta_reach.specs.Exploring.{AreMet}
use Rattle.gta_reach.specs.Unset.{left_of}
use Rattle.gta_reach.proofs.explore.meet_each.Given as goal

abbrev pub invariant-loop-other : goal.invariant-loop-other
invariant-loop-other l = record {
  met : AreMet l.form l.met;
  left : left_of l.met ≤ left_of l.fn.met;
}
