use Rattle.std.proofs.Common.{◌≡◌, ◌++◌, take}
use Rattle.std.specs.List.{flat_map}
use Rattle.std.specs.FinMap.{entries}
use Rattle.store_text.specs.StoreText.{cell_line}
use Rattle.store_text.proofs.writer.push_cells.Given as goal

-- the lines of the cells so far
abbrev pub invariant-loop-place : goal.invariant-loop-place
invariant-loop-place l =
    l.text.items ≡ l.initial.text.items ++ flat_map (λ cell. cell_line l.types cell.0 cell.1) (take l.place (entries l.store.cells))
