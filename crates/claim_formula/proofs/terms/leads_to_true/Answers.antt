use Rattle.std.proofs.Common.{◌≡◌, IfOk, ap, ap₂, ◌∙◌, subst}
use Rattle.ws2s_core.specs.declared.formula.Formula.{Formula}
use Rattle.ws2s_core.specs.declared.formula.Formula.TheVariants.{And}
use Rattle.ws2s_forms.specs.Forms.{ex1}
use Rattle.graph_view.specs.Sights.{sight_of}
use Rattle.claim_formula.proofs.LeadsLemmas.{true_at_last}
use Rattle.claim_formula.proofs.terms.leads_to_true.Goals as goal

pub returns : goal.returns
returns c =
    let types = c.args.l.now.types in
    let sight = sight_of c.args.l.now.vars c.args.view.now in
    subst (λ (made : Formula). IfOk c.ex1.result (λ formula. formula ≡ made))
    (ap (ex1 c.args.next) (c.in_ok-and.ensures ∙ ap₂ And c.in_ok-leads.ensures c.in_ok-holds.ensures)
    ∙ true_at_last types sight c.args.value c.args.fields.now c.in-Some.before.now c.in-Some.last.now c.args.next c.in_ok-inner.inner
    c.in-Some.ensures.cases.0 c.in_ok-inner.ensures)
    c.ex1.ensures
