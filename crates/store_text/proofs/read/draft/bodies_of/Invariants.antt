use Rattle.std.proofs.Common.{◌≡◌, ◌++◌}
use Rattle.store_core.specs.StoreBodies.{cells_of, AreLive}
use Rattle.store_text.specs.DraftBodies.{said_cells}
use Rattle.store_text.proofs.read.draft.bodies_of.Given as goal

abbrev pub invariant-loop-number : goal.invariant-loop-number
invariant-loop-number l =
    (goal.iterator-loop-number).can_next l.number-iterator × (goal.iterator-loop-number).is_finite l.number-iterator
    × AreLive l.bodies.items × (cells_of l.bodies.items ++ said_cells l.number-iterator ≡ said_cells l.fn.cells.entries)
