use Rattle.std.proofs.Common.{◌≡◌, length}
use Rattle.gta_classes.specs.Classes.{AreClasses}
use Rattle.gta_classes.specs.Cuts.{Covers}
use Rattle.gta_classes.proofs.cutting.choose_representatives.Given as goal

abbrev pub invariant-loop-state : goal.invariant-loop-state
invariant-loop-state l = record {
  classes : AreClasses l.part.reached l.part.classes l.part.representatives;
  reached : l.part.reached ≡ l.fn.part.reached;
  kept : l.part.classes ≡ l.fn.part.classes;
  many : length l.part.representatives ≡ length l.fn.part.representatives;
  covers : Covers l.part l.lists.items;
}
