use Rattle.std.proofs.Common.{◌≡◌}
use Rattle.tree_encode.specs.Layouts.{first_at, IsTabled}
use Rattle.tree_encode.proofs.index.index_types.Given as goal

abbrev pub invariant-loop-index : goal.invariant-loop-index
invariant-loop-index l = record {
  next : l.next ≡ first_at l.types l.index;
  tabled : IsTabled (first_at l.types) l.index l.firsts.items;
}
