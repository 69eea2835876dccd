use Rattle.std.proofs.Common.{◌≡◌, ◌≤◌, take}
use Rattle.graph_view.specs.Sights.{var_slots}
use Rattle.symbolic_steps.proofs.changes.var_slots.Given as goal

abbrev pub invariant-loop-index : goal.invariant-loop-index
invariant-loop-index l = record {
  count : l.count ≡ var_slots (take l.index l.vars);
  within : l.count ≤ l.index;
}
