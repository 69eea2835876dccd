use Rattle.std.proofs.Common.{◌≡◌, ◌++◌, take, map}
use Rattle.store_text.specs.Saying.{mention}
use Rattle.store_text.proofs.read.holds.note_cells.Given as goal

abbrev pub invariant-loop-cell : goal.invariant-loop-cell
invariant-loop-cell l = l.mentions ≡ l.fn.mentions ++ map (mention l.line l.target) (take l.cell-index l.cells)
