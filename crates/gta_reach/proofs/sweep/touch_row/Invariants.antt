use Rattle.std.proofs.Common.{◌+◌, ◌≤◌, ◌≡◌, ◌<◌, ℕ, List, Bool, Some}
use Rattle.std.specs.Prelude.{slice_get}
use Rattle.gta_reach.specs.Form.{cell_in, root_in}
use Rattle.gta_classes.specs.Chosen.{IsAmong}
use Rattle.gta_reach.specs.Reached.{Sweeps, Grown, IsTouched}
use Rattle.gta_reach.specs.Unset.{one_if, unset}
use Rattle.gta_reach.proofs.sweep.touch_row.Given as goal

abbrev pub invariant-loop-right : goal.invariant-loop-right
invariant-loop-right l = record {
  sweeps : (lefts : List ℕ) (before : List Bool) → IsAmong lefts l.left →
      Sweeps l.space lefts l.rights before l.fn.nodes.items l.fn.states l.fn.is_more →
      Sweeps l.space lefts l.rights before l.nodes.items l.states l.is_more;
  grown : Grown l.fn.nodes.items l.fn.states l.nodes.items l.states;
  touched : (k r : ℕ) → k < l.right-index → slice_get l.rights k ≡ Some r →
      IsTouched l.nodes.items l.states (root_in l.space (cell_in l.space l.left r));
  fewer : unset l.states + one_if l.is_more ≤ unset l.fn.states + one_if l.fn.is_more;
}
