use Rattle.std.proofs.Common.{◌≡◌, IfOk, subst}
use Rattle.ws2s_core.specs.declared.formula.Formula.{Formula}
use Rattle.store_claims.proofs.Made.{all-made}
use Rattle.store_claims.proofs.formulas.on_all.Goals as goal

pub returns : goal.returns
returns c = subst (λ (f : Formula). IfOk c.assertion_formula.result (λ formula. formula ≡ f))
    (all-made c.args.l.now.types c.args.l.now.vars c.args.assertion.now c.tracks-next.result c.in_ok-view.view c.tracks-next.ensures c.in_ok-view.ensures)
    c.assertion_formula.ensures.value
