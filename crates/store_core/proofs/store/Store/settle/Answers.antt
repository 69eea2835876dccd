use Rattle.std.proofs.Common.{◌≡◌, ◌∙◌, ap, sym, subst, List, rules}
use Rattle.std.proofs.lemmas.List.Elements.{filter_from_retain}
use Rattle.store_core.specs.declared.store.CellBody.{CellBody}
use Rattle.store_core.specs.StoreBodies.{store_of, live_of, IsStored}
use Rattle.store_core.proofs.Freed.{IsStored-settled, live_of-twice}
use Rattle.store_core.proofs.store.Store.settle.Goals as goal

pub invariant_of-self : goal.invariant_of-self
invariant_of-self c =
    let settled : c.retain.new.self.items ≡ live_of c.self.inside.cells.items =
    filter_from_retain _ (λ b. b.is_live) (λ p x b q called. search rules) _ _ _ c.retain.ensures.filtered in
    subst (λ bodies. IsStored bodies 0 c.self.inside.next) (sym settled)
    (IsStored-settled c.self.inside.cells.items c.self.inside.freed c.self.inside.next c.self.invariant)

pub returns-then-self-gt0 : goal.returns-then-self-gt0
returns-then-self-gt0 c =
    let settled : c.retain.new.self.items ≡ live_of c.self.inside.cells.items =
    filter_from_retain _ (λ b. b.is_live) (λ p x b q called. search rules) _ _ _ c.retain.ensures.filtered in
    ap (λ (bodies : List CellBody). store_of (live_of bodies) c.self.inside.vars c.self.inside.next) settled
    ∙ ap (λ (bodies : List CellBody). store_of bodies c.self.inside.vars c.self.inside.next) (live_of-twice c.self.inside.cells.items)
    ∙ c.self.view_is
