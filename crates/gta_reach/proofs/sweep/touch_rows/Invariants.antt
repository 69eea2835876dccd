use Rattle.std.proofs.Common.{◌+◌, ◌≤◌, ◌≡◌, ◌<◌, ℕ, List, Bool, Some}
use Rattle.std.specs.Prelude.{slice_get}
use Rattle.gta_reach.specs.Form.{cell_in, root_in}
use Rattle.gta_classes.specs.Chosen.{IsAmong}
use Rattle.gta_reach.specs.Reached.{Sweeps, IsTouched}
use Rattle.gta_reach.specs.Unset.{one_if, unset}
use Rattle.gta_reach.proofs.sweep.touch_rows.Given as goal

abbrev pub invariant-loop-left : goal.invariant-loop-left
invariant-loop-left l = record {
  sweeps : (before : List Bool) →
      Sweeps l.space l.lefts l.rights before l.fn.nodes.items l.fn.states l.fn.is_more →
      Sweeps l.space l.lefts l.rights before l.nodes.items l.states l.is_more;
  touched : (k left r : ℕ) → k < l.left-index → slice_get l.lefts k ≡ Some left → IsAmong l.rights r →
      IsTouched l.nodes.items l.states (root_in l.space (cell_in l.space left r));
  fewer : unset l.states + one_if l.is_more ≤ unset l.fn.states + one_if l.fn.is_more;
}
