use Rattle.std.proofs.Common.{◌≡◌, length}
use Rattle.gta_classes.proofs.CutLemmas.{IsIndicatorBelow}
use Rattle.gta_classes.proofs.cutting.indicate.Given as goal

abbrev pub invariant-loop-state : goal.invariant-loop-state
invariant-loop-state l = record {
  many : length l.ids.items ≡ length l.fn.ids.items;
  below : IsIndicatorBelow l.listed l.ids.items l.state-index;
}
