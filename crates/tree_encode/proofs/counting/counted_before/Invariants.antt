use Rattle.std.proofs.Common.{◌≡◌, ◌≤◌, take}
use Rattle.std.specs.Prelude.{count_by}
use Rattle.store_core.specs.Tables.{fields_of}
use Rattle.tree_encode.specs.Counting.{is_counted}
use Rattle.tree_encode.proofs.counting.counted_before.Given as goal

abbrev pub invariant-loop-index : goal.invariant-loop-index
invariant-loop-index l = record {
  counted : l.count ≡ count_by (is_counted l.what) (take l.index (fields_of l.types l.ty));
  within : l.count ≤ l.index;
}
