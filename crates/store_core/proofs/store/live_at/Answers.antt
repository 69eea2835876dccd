use Rattle.std.proofs.Common.{◌≡◌, ◌∙◌, ap, arith, sym, slice_get, Some, length, take}
use Rattle.std.proofs.lemmas.List.{take_all}
use Rattle.std.proofs.lemmas.Option.{slice_get-get_or, slice_get_past}
use Rattle.store_core.specs.StoreBodies.{live_of}
use Rattle.store_core.proofs.Freed.{live_at-place}
use Rattle.store_core.proofs.store.live_at.Goals as goal

pub returns-then-before-place : goal.returns-then-before-place
returns-then-before-place c =
    let cells = c.args.cells.now in
    let cell = c.cell-item.result in
    let index = c.loop-cell.cell-index in
    let at : slice_get cells index ≡ Some cell = slice_get-get_or cells index cell (omega (arith, c.loop-cell-test.true)) ∙ ap Some (sym c.cell-item.is) in
    let same : c.args.place ≡ length (live_of (take index cells)) = omega (arith, c.if-before-place.true, c.loop-cell.invariant.0) in
    sym (ap (slice_get (live_of cells)) same ∙ live_at-place cells index cell at c.if-cell.true)

pub returns : goal.returns
returns c =
    let cells = c.args.cells.now in
    let all = ap (λ bodies. length (live_of bodies)) (take_all c.loop-cell.cell-index cells (omega (arith, c.loop-cell-test.false))) in
    sym (slice_get_past (live_of cells) c.args.place (omega (arith, all, c.loop-cell.invariant.0, c.loop-cell.invariant.1)))
