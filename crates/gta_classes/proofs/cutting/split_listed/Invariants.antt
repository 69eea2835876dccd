use Rattle.std.proofs.Common.{◌≡◌}
use Rattle.gta_classes.proofs.SplitLemmas.{Splits}
use Rattle.gta_classes.proofs.CutLemmas.{SeenIn}
use Rattle.gta_classes.proofs.cutting.split_listed.Given as goal

abbrev pub invariant-loop-state : goal.invariant-loop-state
invariant-loop-state l = record {
  reached : l.part.reached ≡ l.fn.part.reached;
  splits : Splits l.fn.part.reached l.ids l.fn.part.classes l.fn.part.representatives l.made l.part.representatives l.part.classes
      (SeenIn l.order l.state-index);
}
