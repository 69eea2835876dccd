use Rattle.std.proofs.Common.{◌≡◌, ◌<◌, true, ◌∙◌, ap, sym, subst, arith, slice_get, List, Option, None, IsSome, IsSomeAnd, refl, ℕ}
use Rattle.std.proofs.lemmas.Bool.{false≢true}
use Rattle.std.proofs.lemmas.Option.{slice_get_within, get_or_from_slice_get}
use Rattle.std.specs.FinMap.{get}
use Rattle.store_core.specs.declared.store.CellBody.{CellBody}
use Rattle.store_core.specs.Stores.{StoreMap, CellEntry, cell_of, remove_cell}
use Rattle.store_core.specs.StoreBodies.{map_of, live_of}
use Rattle.store_core.proofs.Freed.{FoundLive, found_at, cells-free, IsStored-free}
use Rattle.store_core.proofs.store.Store.remove.Goals as goal

-- the live cell that was found
abbrev Found : List CellBody → ℕ → ℕ → Type 0
Found bodies place q = IsSomeAnd (slice_get bodies place) (λ b. (b.number ≡ q) × (b.is_live ≡ true))

pub index_mut-requires : goal.index_mut-requires
index_mut-requires c =
    let is = found_at c.self.inside.cells.items c.args.c.0 c.in-Some.place
    (subst (λ (l : List CellBody). Found l c.in-Some.place c.args.c.0) c.as_slice.ensures.value c.in-Some.ensures.found) in
    omega (arith, slice_get_within c.self.inside.cells.items c.in-Some.place is.body is.at, c.self.inside.cells.ok.0)

pub unreachable-requires : goal.unreachable-requires
unreachable-requires c =
    let none : cell_of c.args.self.now c.args.c ≡ None = ap (λ (s : StoreMap). cell_of s c.args.c) (sym c.self.view_is) ∙
    subst (λ (l : List CellBody). get (map_of (live_of l)) c.args.c.0 ≡ None) c.as_slice.ensures.value c.in_default.ensures.missing in
    absurd (false≢true (subst (λ (o : Option CellEntry). IsSome o) none c.requires))

pub invariant_of-self : goal.invariant_of-self
invariant_of-self c =
    let bodies = c.self.inside.cells.items in
    let is = found_at bodies c.args.c.0 c.in-Some.place
    (subst (λ (l : List CellBody). Found l c.in-Some.place c.args.c.0) c.as_slice.ensures.value c.in-Some.ensures.found) in
    let body : c.index_mut.result.now ≡ is.body = c.index_mut.ensures.value ∙ get_or_from_slice_get bodies c.in-Some.place is.body _ is.at in
    IsStored-free bodies c.self.inside.freed c.self.inside.next c.args.c.0 c.in-Some.place is _ (ap (λ (b : CellBody). b.number) body) c.self.invariant refl

pub returns : goal.returns
returns c =
    let bodies = c.self.inside.cells.items in
    let is = found_at bodies c.args.c.0 c.in-Some.place
    (subst (λ (l : List CellBody). Found l c.in-Some.place c.args.c.0) c.as_slice.ensures.value c.in-Some.ensures.found) in
    let body : c.index_mut.result.now ≡ is.body = c.index_mut.ensures.value ∙ get_or_from_slice_get bodies c.in-Some.place is.body _ is.at in
    ap (λ cells. record { cells = cells; vars = c.self.inside.vars; next = c.self.inside.next })
    (cells-free bodies c.self.invariant.kept.rising c.in-Some.place is.body _ c.args.c.0 is.at (ap (λ (b : CellBody). b.number) body) is.number refl)
    ∙ ap (λ (s : StoreMap). remove_cell s c.args.c) c.self.view_is
