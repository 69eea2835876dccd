use Rattle.std.proofs.Common.{◌≡◌, ℕ, suc, IfOk, subst, ap, ◌∙◌, add-one}
use Rattle.ws2s_core.specs.declared.formula.Formula.{Formula}
use Rattle.ws2s_core.specs.declared.formula.Formula.TheVariants.{And}
use Rattle.ws2s_forms.specs.Forms.{ex1, or_list}
use Rattle.graph_view.specs.Live.{is_live}
use Rattle.graph_view.specs.Cuts.{named_twice}
use Rattle.graph_view.specs.Sights.{sight_of}
use Rattle.graph_type.proofs.shared.shares.Goals as goal

pub returns : goal.returns
returns c =
    let types = c.args.l.now.types in
    let sight = sight_of c.args.l.now.vars c.args.view.now in
    let inner : c.in_ok-later.field-0 ≡ suc c.args.next = c.in_ok-later.ensures ∙ add-one c.args.next in
    subst (λ (shared : Formula). IfOk c.ex1.result (λ formula. formula ≡ ex1 c.args.next shared))
    (c.in_ok-shared.ensures
    ∙ ap (λ (n : ℕ). And (is_live types sight n c.args.next) (or_list n (named_twice types sight c.args.values.now n c.args.next))) inner)
    c.ex1.ensures
