use Rattle.std.proofs.Common.{◌≡◌, refl, sym, ◌∙◌, subst, Some, None}
use Rattle.std.proofs.lemmas.Option.{same_Some}
use Rattle.store_core.specs.declared.ids.CellId.{CellId}
use Rattle.store_core.specs.Stores.{CellEntry, IsLive, cell_of}
use Rattle.routing_expr.proofs.IndexLemmas.{live-mapped, dead-mapped}
use Rattle.routing_expr.proofs.indexing.child_at.Goals as goal

none_some : (c : CellId) → None ≡ Some c → ⊥
none_some c e = cc

pub returns-in_err-child : goal.returns-in_err-child
returns-in_err-child c d = (
  λ e. absurd (none_some d (sym c.from_residual.ensures ∙ e)),
  λ h. absurd (none_some d ((c.in_err-child.ensures d).1 h.value)),
)

pub returns-in_err-type_of : goal.returns-in_err-type_of
returns-in_err-type_of c d = (
  λ e. absurd (none_some d (sym c.from_residual-in_err-type_of.ensures ∙ e)),
  λ h. absurd
      (dead-mapped (cell_of c.args.store.now c.in_ok-child.child) (λ (cell : CellEntry). cell.variant.ty) c.in_err-type_of.ensures
      (subst (λ x. IsLive c.args.store.now x) (sym (same_Some c.in_ok-child.child d ((c.in_ok-child.ensures d).1 h.value))) h.live)),
)

pub returns : goal.returns
returns c d = (
  λ e. record {
    kind = c.if-not-is_followed.ensures.0 refl;
    value = (c.in_ok-child.ensures d).0 e;
    live = subst (λ x. IsLive c.args.store.now x) (same_Some c.in_ok-child.child d e)
        (live-mapped (cell_of c.args.store.now c.in_ok-child.child) (λ (cell : CellEntry). cell.variant.ty) _ c.in_ok-type_of.ensures);
  },
  λ h. (c.in_ok-child.ensures d).1 h.value,
)
