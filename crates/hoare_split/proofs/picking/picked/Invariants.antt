use Rattle.std.proofs.Common.{◌≡◌}
use Rattle.std.specs.List.{filter, range_with_len}
use Rattle.hoare_split.specs.Picking.{class_at, numbered, test_of}
use Rattle.hoare_split.proofs.picking.picked.Given as goal

-- those below the index
abbrev pub invariant-loop-index : goal.invariant-loop-index
invariant-loop-index l = l.found ≡ filter (λ v. test_of l.pick (class_at l.vars v) v) (numbered (range_with_len 0 l.index))
