use Rattle.std.proofs.Common.{◌≡◌, ◌++◌, take}
use Rattle.gta_product.specs.Filling.{row_by_row}
use Rattle.gta_product.proofs.pairing.add_roots.Given as goal

abbrev pub invariant-loop-row : goal.invariant-loop-row
invariant-loop-row l = l.roots ≡ l.fn.roots ++ row_by_row (take l.row-index l.cells.items)
