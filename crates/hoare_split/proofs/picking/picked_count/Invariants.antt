use Rattle.std.proofs.Common.{◌≡◌, ◌≤◌, length}
use Rattle.std.specs.List.{filter, range_with_len}
use Rattle.hoare_split.specs.Picking.{class_at, numbered, test_of}
use Rattle.hoare_split.proofs.picking.picked_count.Given as goal

-- those below the index, of which there are no more than that
abbrev pub invariant-loop-index : goal.invariant-loop-index
invariant-loop-index l = record {
  counted : l.count ≡ length (filter (λ v. test_of l.pick (class_at l.vars v) v) (numbered (range_with_len 0 l.index)));
  few : l.count ≤ l.index;
}
