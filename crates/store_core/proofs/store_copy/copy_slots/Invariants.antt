use Rattle.std.proofs.Common.{◌≡◌, take}
use Rattle.store_core.proofs.store_copy.copy_slots.Given as goal

-- the copies so far
abbrev pub invariant-loop-slot : goal.invariant-loop-slot
invariant-loop-slot l = l.copies ≡ take l.slot-index l.slots
