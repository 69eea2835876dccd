use Rattle.gta_reach.specs.declared.sides.Side.TheVariants.{Left, Right}
use Rattle.gta_reach.specs.Exploring.{AreMet, AreKept}
use Rattle.gta_reach.specs.Unset.{left_of}
use Rattle.gta_reach.proofs.explore.explore.Given as goal

abbrev pub invariant-loop-next : goal.invariant-loop-next
invariant-loop-next l = record {
  lefts : AreKept l.form Left l.lefts.items;
  rights : AreKept l.form Right l.rights.items;
  met : AreMet l.form l.met;
}

abbrev pub decreases-loop-next : goal.decreases-loop-next
decreases-loop-next l = left_of l.met
