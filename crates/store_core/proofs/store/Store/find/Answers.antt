use Rattle.std.proofs.Common.{◌≡◌, true, ◌∙◌, ap, sym, subst, slice_get, List, Option, IsSomeAnd}
use Rattle.store_core.specs.declared.store.CellBody.{CellBody}
use Rattle.store_core.specs.Stores.{StoreMap, cell_of}
use Rattle.store_core.proofs.Cells.{shown_cell}
use Rattle.store_core.proofs.Freed.{found_live}
use Rattle.store_core.proofs.store.Store.find.Goals as goal

pub returns : goal.returns
returns c =
    let bodies = c.self.inside.cells.items in
    let place = c.in_ok-place_of.field-0 in
    let found = subst (λ (l : List CellBody). IsSomeAnd (slice_get l place) (λ b. (b.number ≡ c.args.c.0) × (b.is_live ≡ true)))
    c.as_slice-cells.ensures.value c.in_ok-place_of.ensures.found in
    shown_cell c.at.result (slice_get bodies place) (c.at.ensures ∙ ap (λ (l : List CellBody). slice_get l place) c.as_slice-cells.ensures.value)
    ∙ sym (found_live bodies c.self.invariant.kept.rising c.args.c.0 place found)
    ∙ ap (λ (s : StoreMap). cell_of s c.args.c) c.self.view_is
