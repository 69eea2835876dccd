use Rattle.std.proofs.Common.{◌≤◌}
use Rattle.gta_reach.specs.declared.sides.Side.TheVariants.{Left, Right}
use Rattle.gta_reach.specs.Exploring.{AreMet, AreKept}
use Rattle.gta_reach.specs.Unset.{left_of}
use Rattle.gta_reach.proofs.explore.pair_all.Given as goal

abbrev pub invariant-loop-parent : goal.invariant-loop-parent
invariant-loop-parent l = record {
  lefts : AreKept l.form Left l.lefts.items;
  rights : AreKept l.form Right l.rights.items;
  met : AreMet l.form l.met;
  left : left_of l.met ≤ left_of l.fn.met;
}
