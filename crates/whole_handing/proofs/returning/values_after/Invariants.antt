use Rattle.std.proofs.Common.{◌≡◌, map}
use Rattle.std.specs.List.{range_with_len}
use Rattle.hoare_split.specs.Picking.{numbered}
use Rattle.whole_run.specs.Handing.{value_after}
use Rattle.whole_handing.proofs.returning.values_after.Given as goal

-- those below the index
abbrev pub invariant-loop-index : goal.invariant-loop-index
invariant-loop-index l = l.values ≡ map (value_after l.vars l.call l.results l.rest l.exited) (numbered (range_with_len 0 l.index))
