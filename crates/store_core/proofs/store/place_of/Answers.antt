use Rattle.std.proofs.Common.{◌≡◌, true, ◌∙◌, ℕ, Option, Some, None, IfSome, IfNone, IsSomeAnd, slice_get, sym, ap, subst, cond}
use Rattle.std.specs.FinMap.{get}
use Rattle.store_core.specs.declared.store.CellBody.{CellBody}
use Rattle.store_core.specs.StoreBodies.{cell_entry, map_of, live_of}
use Rattle.store_core.proofs.Freed.{get-none, get-at}
use Rattle.store_core.proofs.store.place_of.Goals as goal

abbrev HasNumber : ℕ → CellBody → Type 0
HasNumber q b = b.number ≡ q

pub returns-in_err-place-clause-missing : goal.returns-in_err-place-clause-missing
returns-in_err-place-clause-missing c =
    subst (λ (o : Option ℕ). IfNone o (get (map_of (live_of c.args.cells.now)) c.args.c.0 ≡ None)) (sym c.from_residual.ensures)
    (get-none c.args.cells.now c.requires c.args.c.0 c.in_err-place.ensures.missing)

pub returns-in_err-at-clause-missing : goal.returns-in_err-at-clause-missing
returns-in_err-at-clause-missing c =
    absurd (subst (λ (o : Option CellBody). IsSomeAnd o (HasNumber c.args.c.0)) (sym c.in_err-at.ensures) c.in_ok-place.ensures.found)

pub returns-then-branch-clause-found : goal.returns-then-branch-clause-found
returns-then-branch-clause-found c =
    let number = subst (λ (o : Option CellBody). IsSomeAnd o (HasNumber c.args.c.0)) (sym c.in_ok-at.ensures) c.in_ok-place.ensures.found in
    subst (λ (o : Option CellBody). IsSomeAnd o (λ b. (b.number ≡ c.args.c.0) × (b.is_live ≡ true))) c.in_ok-at.ensures (number, c.if-branch.true)

pub returns-else-branch-clause-missing : goal.returns-else-branch-clause-missing
returns-else-branch-clause-missing c =
    let number = subst (λ (o : Option CellBody). IsSomeAnd o (HasNumber c.args.c.0)) (sym c.in_ok-at.ensures) c.in_ok-place.ensures.found in
    get-at c.args.cells.now c.requires c.args.c.0 c.in_ok-place.place c.in_ok-at.field-0.now (sym c.in_ok-at.ensures) number
    ∙ ap (λ t. cond t (Some (cell_entry c.in_ok-at.field-0.now).1) None) c.if-branch.false
