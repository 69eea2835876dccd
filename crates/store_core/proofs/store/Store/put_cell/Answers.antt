use Rattle.std.proofs.Common.{◌≡◌, ◌+◌, ◌++◌, ◌∷◌, [], ◌∙◌, ap, sym, subst, length, true, refl, arith, List}
use Rattle.std.proofs.lemmas.List.{length_push}
use Rattle.std.specs.FinMap as fin
use Rattle.store_core.specs.declared.store.CellBody.{CellBody}
use Rattle.store_core.specs.Stores.{StoreMap, put_cell}
use Rattle.store_core.specs.StoreBodies.{IsKept, IsStored, live_of, map_of}
use Rattle.store_core.proofs.Changes.{IsKept-push, cells-push}
use Rattle.store_core.proofs.Freed.{IsKept-live, live_of-push}
use Rattle.store_core.proofs.store.Store.put_cell.Goals as goal

pub invariant_of-self-2 : goal.invariant_of-self-2
invariant_of-self-2 c =
    let bodies = c.self.inside.cells.items in
    let cell : CellBody = record { number = c.self.inside.next; variant = c.args.v; values = c.in_ok-blank_values.field-0; is_live = true } in
    subst (λ bodies. IsStored bodies c.self.inside.freed (c.self.inside.next + 1)) (sym c.in_ok-push.ensures.items)
    (record {
      kept = IsKept-push bodies cell c.self.inside.next c.self.invariant.kept refl;
      count =
          let live = ap length (live_of-push bodies cell refl) ∙ length_push (live_of bodies) cell in
          omega (arith, length_push bodies cell, live, c.self.invariant.count);
    })

pub returns-clause-put : goal.returns-clause-put
returns-clause-put c =
    let next = c.self.inside.next in
    let bodies = c.self.inside.cells.items in
    let cell : CellBody = record { number = next; variant = c.args.v; values = c.in_ok-blank_values.field-0; is_live = true } in
    ap (λ items. record { cells = map_of (live_of items); vars = c.self.inside.vars; next = next + 1 }) c.in_ok-push.ensures.items
    ∙ ap (λ (items : List CellBody). record { cells = map_of items; vars = c.self.inside.vars; next = next + 1 }) (live_of-push bodies cell refl)
    ∙ ap (λ cells. record { cells = cells; vars = c.self.inside.vars; next = next + 1 })
    (cells-push (live_of bodies) cell next (IsKept-live bodies next c.self.invariant.kept) refl)
    ∙ ap (λ values. record {
      cells = fin.insert (map_of (live_of bodies)) next (record { variant = c.args.v; values = values });
      vars = c.self.inside.vars;
      next = next + 1;
    }) c.in_ok-blank_values.ensures
    ∙ ap (λ (s : StoreMap). put_cell s c.args.types.now c.args.v) c.self.view_is
