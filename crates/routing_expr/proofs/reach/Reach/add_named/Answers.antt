use Rattle.std.proofs.Common.{◌∙◌, ap, sym, Some}
use Rattle.std.proofs.lemmas.Option.{same_Some, none-some}
use Rattle.std.proofs.lemmas.Result.{on_ok_weaker}
use Rattle.routing_expr.proofs.ReachLemmas.{reaches_none, reaches_alike}
use Rattle.routing_expr.proofs.reach.Reach.add_named.Goals as goal

pub returns-in-None : goal.returns-in-None
returns-in-None c = reaches_none _ _ (λ d h. none-some d (sym c.in-None.is ∙ (c.named_cell.ensures d).0 h))

pub returns-in-Some : goal.returns-in-Some
returns-in-Some c = on_ok_weaker c.add.result (reaches_alike _ _ _ _ (λ d. (
  λ same. (c.named_cell.ensures d).1 (c.in-Some.is ∙ ap (λ e. Some e) (sym same)),
  λ h. same_Some d c.in-Some.cell (sym ((c.named_cell.ensures d).0 h) ∙ c.in-Some.is),
))) c.add.ensures
