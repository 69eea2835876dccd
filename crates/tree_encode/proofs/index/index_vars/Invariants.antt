use Rattle.std.proofs.Common.{◌≡◌, ◌≤◌}
use Rattle.tree_encode.specs.Layouts.{slots_before, IsTabled}
use Rattle.tree_encode.proofs.index.index_vars.Given as goal

abbrev pub invariant-loop-index : goal.invariant-loop-index
invariant-loop-index l = record {
  count : l.count ≡ slots_before l.vars l.index;
  within : l.count ≤ l.index;
  tabled : IsTabled (slots_before l.vars) l.index l.slots.items;
}
