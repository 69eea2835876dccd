use Rattle.std.proofs.Common.{◌≡◌, ◌++◌}
use Rattle.store_text.specs.Saying.{cells_numbered}
use Rattle.store_text.proofs.read.holds.cells_numbered.Given as goal

abbrev pub invariant-loop-number : goal.invariant-loop-number
invariant-loop-number l =
    (goal.iterator-loop-number).can_next l.number-iterator × (goal.iterator-loop-number).is_finite l.number-iterator
    × (l.cells ++ cells_numbered l.number-iterator ≡ cells_numbered l.numbers.keys)
