use Rattle.std.proofs.Common.{◌≡◌, ◌≤◌, length, take}
use Rattle.store_core.specs.StoreBodies.{live_of}
use Rattle.store_core.proofs.store.live_at.Given as goal

-- so many of the cells before are live, and no more than were asked for
abbrev pub invariant-loop-cell : goal.invariant-loop-cell
invariant-loop-cell l = (l.before ≡ length (live_of (take l.cell-index l.cells))) × (l.before ≤ l.place)
