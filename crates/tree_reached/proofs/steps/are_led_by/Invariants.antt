use Rattle.std.proofs.Common.{◌≡◌, ◌+◌, ◌-◌, ◌≤◌}
use Rattle.tree_reached.specs.ByField.{last_number, are_led_by}
use Rattle.tree_reached.specs.Going.{set_before}
use Rattle.tree_reached.proofs.steps.are_led_by.Given as goal

-- the steps with numbers below `left` are still to be put around
abbrev pub invariant-loop-left : goal.invariant-loop-left
invariant-loop-left l = record {
  within : l.left ≤ last_number l.ways;
  built : l.formula ≡ are_led_by (l.fn.next + l.left) l.l.types l.ways l.gaps l.fn.ty l.left (last_number l.ways - l.left) (set_before l.fn.next l.left);
}

abbrev pub decreases-loop-left : goal.decreases-loop-left
decreases-loop-left l = l.left
