use Rattle.std.proofs.Common.{◌≡◌, ◌<◌, true, ◌∙◌, ap, sym, subst, arith, set, slice_get, length, ℕ, List, Option, Some, None, IsSomeAnd}
use Rattle.std.specs.Option.{option_map, option_map_or, option_and_then}
use Rattle.std.proofs.lemmas.Option.{slice_get_within, get_or_from_slice_get}
use Rattle.std.specs.FinMap as fin
use Rattle.std.specs.FinMap.{get}
use Rattle.store_core.specs.declared.store.CellBody.{CellBody}
use Rattle.store_core.specs.Stores.{StoreMap, CellEntry, cell_of, field_of, set_field, with_field, class_of}
use Rattle.store_core.specs.StoreBodies.{cell_entry, store_of, map_of, live_of}
use Rattle.store_core.proofs.Changes.{field_within}
use Rattle.store_core.proofs.Freed.{FoundLive, found_at, found_live, cells-set, IsStored-set}
use Rattle.store_core.proofs.store.Store.set_field.Goals as goal

-- the live cell that was found
abbrev Found : List CellBody → ℕ → ℕ → Type 0
Found bodies place q = IsSomeAnd (slice_get bodies place) (λ b. (b.number ≡ q) × (b.is_live ≡ true))

pub index_mut-cell-requires : goal.index_mut-cell-requires
index_mut-cell-requires c =
    let is = found_at c.self.inside.cells.items c.args.c.0 c.in-Some.place
    (subst (λ (l : List CellBody). Found l c.in-Some.place c.args.c.0) c.as_slice.ensures.value c.in-Some.ensures.found) in
    omega (arith, slice_get_within c.self.inside.cells.items c.in-Some.place is.body is.at, c.self.inside.cells.ok.0)

pub unreachable-requires : goal.unreachable-requires
unreachable-requires c =
    let none : cell_of c.args.self.now c.args.c ≡ None = ap (λ (s : StoreMap). cell_of s c.args.c) (sym c.self.view_is) ∙
    subst (λ (l : List CellBody). get (map_of (live_of l)) c.args.c.0 ≡ None) c.as_slice.ensures.value c.in_default.ensures.missing in
    absurd (subst (λ (o : Option CellEntry). IsSomeAnd (option_and_then (λ e. field_of e c.args.f) o) (λ old. class_of c.args.v ≡ class_of old))
    none c.requires)

pub set-requires : goal.set-requires
set-requires c =
    let bodies = c.self.inside.cells.items in
    let found = subst (λ (l : List CellBody). Found l c.in-Some.place c.args.c.0) c.as_slice.ensures.value c.in-Some.ensures.found in
    let is = found_at bodies c.args.c.0 c.in-Some.place found in
    let body : c.index_mut-cell.result.now ≡ is.body = c.index_mut-cell.ensures.value ∙ get_or_from_slice_get bodies c.in-Some.place is.body _ is.at in
    let cell : cell_of c.args.self.now c.args.c ≡ Some (cell_entry is.body).1 = ap (λ (s : StoreMap). cell_of s c.args.c) (sym c.self.view_is)
    ∙ found_live bodies c.self.invariant.kept.rising c.args.c.0 c.in-Some.place found ∙ ap (option_map (λ (b : CellBody). (cell_entry b).1)) is.at in
    subst (λ (b : CellBody). c.args.f.index < length b.values) (sym body)
    (field_within c.args.self.now c.args.c c.args.f (cell_entry is.body).1 (λ old. class_of c.args.v ≡ class_of old) cell c.requires)

pub invariant_of-self : goal.invariant_of-self
invariant_of-self c =
    let bodies = c.self.inside.cells.items in
    let is = found_at bodies c.args.c.0 c.in-Some.place
    (subst (λ (l : List CellBody). Found l c.in-Some.place c.args.c.0) c.as_slice.ensures.value c.in-Some.ensures.found) in
    let body : c.index_mut-cell.result.now ≡ is.body = c.index_mut-cell.ensures.value ∙ get_or_from_slice_get bodies c.in-Some.place is.body _ is.at in
    IsStored-set bodies c.self.inside.freed c.self.inside.next c.args.c.0 c.in-Some.place is _ (ap (λ (b : CellBody). b.number) body) c.self.invariant
    (ap (λ (b : CellBody). b.is_live) body ∙ is.live)

pub returns : goal.returns
returns c =
    let bodies = c.self.inside.cells.items in
    let found = subst (λ (l : List CellBody). Found l c.in-Some.place c.args.c.0) c.as_slice.ensures.value c.in-Some.ensures.found in
    let is = found_at bodies c.args.c.0 c.in-Some.place found in
    let body : c.index_mut-cell.result.now ≡ is.body = c.index_mut-cell.ensures.value ∙ get_or_from_slice_get bodies c.in-Some.place is.body _ is.at in
    let now = c.index_mut-cell.result.now in
    let after : CellBody = record { number = now.number; variant = now.variant; values = c.set.new.self; is_live = now.is_live } in
    let changed : (cell_entry after).1 ≡ with_field (cell_entry is.body).1 c.args.f c.args.v =
    (λ i. record { variant = (body i).variant; values = c.set.ensures i })
    ∙ ap (λ (b : CellBody). record { variant = is.body.variant; values = set b.values c.args.f.index (Some c.args.v) }) body in
    let here : cell_of (store_of (live_of bodies) c.self.inside.vars c.self.inside.next) c.args.c ≡ Some (cell_entry is.body).1 =
    found_live bodies c.self.invariant.kept.rising c.args.c.0 c.in-Some.place found ∙ ap (option_map (λ (b : CellBody). (cell_entry b).1)) is.at in
    ap (λ cells. record { cells = cells; vars = c.self.inside.vars; next = c.self.inside.next })
    (cells-set bodies c.self.invariant.kept.rising c.in-Some.place is.body after c.args.c.0 is.at (ap (λ (b : CellBody). b.number) body) is.number
    (ap (λ (b : CellBody). b.is_live) body ∙ is.live)
    ∙ ap (fin.insert (map_of (live_of bodies)) c.args.c.0) changed
    ∙ sym (ap (λ (o : Option CellEntry). option_map_or
    (λ cell. fin.insert (map_of (live_of bodies)) c.args.c.0 (with_field cell c.args.f c.args.v)) o (map_of (live_of bodies))) here))
    ∙ ap (λ (s : StoreMap). set_field s c.args.c c.args.f c.args.v) c.self.view_is
