use Rattle.std.proofs.Common.{◌≡◌, take}
use Rattle.store_core.proofs.store_copy.copy_cells.Given as goal

-- the copies so far
abbrev pub invariant-loop-cell : goal.invariant-loop-cell
invariant-loop-cell l = l.copies.items ≡ take l.cell-index l.cells
