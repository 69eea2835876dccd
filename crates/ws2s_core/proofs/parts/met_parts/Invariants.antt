use Rattle.std.proofs.Common.{◌+◌, ◌*◌}
use Rattle.std.specs.BinaryHeap.{heap_items, heap_len, IsHeap}
use Rattle.std.specs.Ordering.{nat_cmp}
use Rattle.ws2s_core.specs.Parts.{MeetsParts}
use Rattle.ws2s_core.proofs.parts.met_parts.Given as goal

abbrev pub invariant-loop-place : goal.invariant-loop-place
invariant-loop-place l = record {
  meets : MeetsParts l.nodes l.whole l.met.items (heap_items l.waiting) l.below;
  in_order : IsHeap nat_cmp (heap_items l.waiting);
}

-- a number that is met is lower than the one before, and at most two come to wait for it
abbrev pub decreases-loop-place : goal.decreases-loop-place
decreases-loop-place l = 2 * l.below + heap_len l.waiting
