use Rattle.std.proofs.Common.{◌≡◌, ◌∙◌, ap, arith, sym, slice_get, List}
use Rattle.std.specs.Option.{option_map}
use Rattle.store_core.specs.declared.store.CellBody.{CellBody}
use Rattle.store_core.specs.StoreBodies.{cell_entry, live_of}
use Rattle.store_core.proofs.Cells.{slice_get-cells, shown}
use Rattle.store_core.proofs.Freed.{order_live, live_of-all, shown_live}
use Rattle.store_core.proofs.store.Store.body_at.Goals as goal

pub returns-then-self-eq0-clause-cell : goal.returns-then-self-eq0-clause-cell
returns-then-self-eq0-clause-cell c =
    let bodies = c.self.inside.cells.items in
    let place = c.args.place in
    shown c.at.result
    ∙ ap (option_map cell_entry) (c.at.ensures ∙ ap (λ (l : List CellBody). slice_get l place)
    (c.as_slice-cells.ensures.value ∙ sym (live_of-all bodies (omega (arith, c.self.invariant.count, c.if-self-eq0.true)))))
    ∙ sym (slice_get-cells (live_of bodies) (order_live bodies c.self.invariant.kept.rising) c.self.inside.vars c.self.inside.next
    c.args.self.now c.self.view_is place)

pub returns-then-self-eq0-clause-live : goal.returns-then-self-eq0-clause-live
returns-then-self-eq0-clause-live c =
    let bodies = c.self.inside.cells.items in
    shown_live bodies c.args.place c.at.result
    (c.at.ensures ∙ ap (λ (l : List CellBody). slice_get l c.args.place)
    (c.as_slice-cells.ensures.value ∙ sym (live_of-all bodies (omega (arith, c.self.invariant.count, c.if-self-eq0.true)))))

pub returns-else-self-eq0-clause-cell : goal.returns-else-self-eq0-clause-cell
returns-else-self-eq0-clause-cell c =
    let bodies = c.self.inside.cells.items in
    let place = c.args.place in
    shown c.live_at.result
    ∙ ap (option_map cell_entry) (c.live_at.ensures ∙ ap (λ (l : List CellBody). slice_get (live_of l) place) c.as_slice-cells.ensures.value)
    ∙ sym (slice_get-cells (live_of bodies) (order_live bodies c.self.invariant.kept.rising) c.self.inside.vars c.self.inside.next
    c.args.self.now c.self.view_is place)

pub returns-else-self-eq0-clause-live : goal.returns-else-self-eq0-clause-live
returns-else-self-eq0-clause-live c =
    shown_live c.as_slice-cells.result.now c.args.place c.live_at.result c.live_at.ensures
