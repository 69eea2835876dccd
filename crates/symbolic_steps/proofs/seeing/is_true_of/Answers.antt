use Rattle.std.proofs.Common.{◌≡◌, ℕ, IfOk, ap, ap₂, ◌∙◌, subst, add-one}
use Rattle.ws2s_core.specs.declared.formula.Formula.{Formula}
use Rattle.ws2s_core.specs.declared.formula.Formula.TheVariants.{And}
use Rattle.ws2s_forms.specs.Forms.{ex1}
use Rattle.graph_view.specs.Sights.{sight_of}
use Rattle.graph_view.specs.Syms.{is_in}
use Rattle.graph_view.specs.Fields.{is_true}
use Rattle.symbolic_steps.proofs.seeing.is_true_of.Goals as goal

pub returns : goal.returns
returns c =
    let next = c.args.next in
    subst (λ (made : Formula). IfOk c.ex1.result (λ formula. formula ≡ ex1 next made))
    (c.in_ok-and.ensures ∙ ap₂ And c.in_ok-there.ensures c.in_ok-truth.ensures
    ∙ ap (λ (n : ℕ). And (is_in n next c.args.value) (is_true c.args.l.now.types (sight_of c.args.l.now.vars c.args.view.now) n c.args.field next))
    (c.in_ok-inner.ensures ∙ add-one next))
    c.ex1.ensures
