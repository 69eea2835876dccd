use Rattle.std.proofs.Common.{◌≡◌, take}
use Rattle.store_core.proofs.store_copy.copy_values.Given as goal

-- the copies so far
abbrev pub invariant-loop-value : goal.invariant-loop-value
invariant-loop-value l = l.copies ≡ take l.value-index l.values
