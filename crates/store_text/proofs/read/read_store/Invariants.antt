use Rattle.std.proofs.Common.{◌≡◌, ◌+◌, ◌≤◌, length}
use Rattle.store_text.specs.Lines.{lines_of}
use Rattle.store_text.specs.Reading.{reading, read_lines}
use Rattle.store_text.proofs.read.read_store.Given as goal

abbrev pub invariant-loop-left : goal.invariant-loop-left
invariant-loop-left l =
    (read_lines l.types l.vars l.line l.draft (lines_of l.left) ≡ reading l.types l.vars l.text) × (l.line + length l.left ≤ length l.text + 1)
    × (length l.draft.vars ≡ length l.vars)

abbrev pub decreases-loop-left : goal.decreases-loop-left
decreases-loop-left l = length l.left
