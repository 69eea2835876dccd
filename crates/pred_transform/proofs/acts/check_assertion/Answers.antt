use Rattle.std.proofs.Common.{ap, ◌∙◌}
use Rattle.ws2s_core.specs.declared.formula.Formula.{Formula}
use Rattle.ws2s_core.specs.declared.formula.Formula.TheVariants.{Not}
use Rattle.graph_view.specs.Sights.{sight_of}
use Rattle.graph_view.specs.declared.view.View.{View}
use Rattle.site_list.specs.Claims.{assertion}
use Rattle.pred_transform.proofs.ActLemmas.{on_ok_then, place-found}
use Rattle.pred_transform.proofs.acts.check_assertion.Goals as goal

pub returns : goal.returns
returns c =
    let says : View → Formula = λ view. Not (assertion c.args.l.now.types (sight_of c.args.l.now.vars view) view.vars c.args.assertion.now view.next) in
    on_ok_then c.find.result
    (λ found. place-found c.args.w.now c.passes.new.w c.find.new.w c.in_ok-passes.field-0 c.args.reached.now c.in_ok-not.field-0 says c.if-not-branch.false
    c.in_ok-passes.ensures (c.in_ok-not.ensures ∙ ap Not c.in_ok-holds.ensures.value) found)
    c.find.ensures
