use Rattle.gta_classes.specs.Cuts.{IsDivided}
use Rattle.gta_classes.proofs.cutting.move_members.Given as goal

abbrev pub invariant-loop : goal.invariant-loop
invariant-loop l = IsDivided l.part l.class l.fn.members l.members l.moved
