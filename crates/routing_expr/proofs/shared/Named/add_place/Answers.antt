use Rattle.std.proofs.Common.{◌≡◌, ◌∙◌, ap, sym, subst, refl, Some, None, Option, is_some}
use Rattle.std.specs.Prelude.{option_map}
use Rattle.std.proofs.lemmas.Bool.{false≢true}
use Rattle.std.proofs.lemmas.Option.{same_Some}
use Rattle.std.proofs.lemmas.Result.{on_ok_weaker}
use Rattle.store_core.specs.declared.ids.CellId.{CellId}
use Rattle.store_core.specs.Stores.{CellEntry, IsLive}
use Rattle.routing_expr.proofs.SharedLemmas.{counts_none, counts_alike}
use Rattle.routing_expr.proofs.shared.Named.add_place.Goals as goal

pub returns-in_default : goal.returns-in_default
returns-in_default c = counts_none _ _ (λ d h. none d ((c.named_cell.ensures d).0 h.names))
  where
    none : (d : CellId) → c.named_cell.result ≡ Some d → ⊥
    none d e = c.in_default.not-Some d e

-- the cell that is named is the one that was found
same_cell : {o : Option CellId} {d e : CellId} → o ≡ Some e → o ≡ Some d → d ≡ e
same_cell {o} {d} {e} found named = same_Some d e (sym named ∙ found)

live_typed : (o : Option CellEntry) → is_some (option_map (λ (cell : CellEntry). cell.variant.ty) o) ≡ is_some o
live_typed None = refl
live_typed (Some cell) = refl

pub returns-then-is_none : goal.returns-then-is_none
returns-then-is_none c = counts_none _ _ (λ d h.
    let same = same_cell c.in-Some.is ((c.named_cell.ensures d).0 h.names) in
    false≢true (sym (c.if-is_none.ensures) ∙ ap is_some c.type_of.ensures ∙ live_typed _ ∙ subst (λ e. IsLive c.args.store.now e) same h.live))

pub returns : goal.returns
returns c = on_ok_weaker c.add.result (counts_alike _ _ _ _ (λ d. (
  λ same. record {
    live = subst (λ e. IsLive c.args.store.now e) (sym same) (sym (live_typed _) ∙ sym (ap is_some c.type_of.ensures) ∙ c.if-is_none.ensures);
    names = (c.named_cell.ensures d).1 (c.in-Some.is ∙ ap (λ e. Some e) (sym same));
  },
  λ h. same_cell c.in-Some.is ((c.named_cell.ensures d).0 h.names),
))) c.add.ensures
