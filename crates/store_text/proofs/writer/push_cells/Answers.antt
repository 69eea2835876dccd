use Rattle.std.proofs.Common.{◌≡◌, ◌∙◌, ◌++◌, ap, sym, slice_get, Some}
use Rattle.std.specs.FinMap.{entries}
use Rattle.store_core.specs.StoreBodies.{cell_entry}
use Rattle.store_text.specs.StoreText.{cell_line}
use Rattle.store_text.proofs.Writing.{flat_map_next}
use Rattle.store_text.proofs.writer.push_cells.Goals as goal

-- the next line is that of the cell at the place
pub loop-place-preserved : goal.loop-place-preserved
loop-place-preserved c =
    let es = entries c.args.store.now.cells in
    let cell = c.in-Some.cell.now in
    let at : slice_get es c.loop-place.place ≡ Some (cell_entry cell) = sym c.in-Some.ensures.cell in
    c.in_ok-push_cell.ensures
    ∙ (λ i. c.loop-place.invariant i ++ cell_line c.args.types.now cell.number (cell_entry cell).1)
    ∙ flat_map_next (λ e. cell_line c.args.types.now e.0 e.1) c.args.text.now.items es c.loop-place.place (cell_entry cell) at
