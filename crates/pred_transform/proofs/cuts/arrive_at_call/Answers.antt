use Rattle.std.proofs.Common.{Some, ap, ◌∙◌}
use Rattle.ws2s_core.specs.declared.formula.Formula.TheVariants.{Not}
use Rattle.graph_view.specs.Sights.{sight_of}
use Rattle.site_list.specs.States.{next_track}
use Rattle.site_list.specs.Parts.{escapes}
use Rattle.site_list.specs.Cuts.{with_part}
use Rattle.symbolic_steps.specs.Shown.{checked}
use Rattle.pred_transform.specs.Holding.{claims_hold}
use Rattle.symbolic_steps.proofs.ShownLemmas.{guard-shown}
use Rattle.pred_transform.proofs.CutLemmas.{call-arrived}
use Rattle.pred_transform.proofs.cuts.arrive_at_call.Goals as goal

pub returns : goal.returns
returns c = λ next wanted s is.
    let types = c.args.l.now.types in
    let vars = c.args.l.now.vars in
    let w = c.check_stores.new.w in
    let v = c.check_pointers.new.w in
    let reached = c.in_ok-here.here in
    let part = c.in_ok-part.part in
    let made = c.in_ok-part.ensures next wanted s is in
    let after = with_part types vars c.args.roots.now s in
    let here = guard-shown next wanted after c.with_part.new.w reached c.in_ok-here.ensures made.1 in
    call-arrived types vars next wanted c.args.cut.now (next_track types vars s) part after w v c.check_claims.new.w reached made.0 here
    (c.in_ok-check_stores.ensures c.args.cut.now.line next wanted after here made.1)
    (c.in_ok-check_pointers.ensures ∙ ap (λ vs. checked reached (escapes vars vs w.view.vars part.0 w.view.next) w) c.as_slice.ensures)
    (c.in_ok-check_claims.ensures
    ∙ ap (λ cs. checked reached (Not (claims_hold types (sight_of vars v.view) v.view.vars (Some part) cs v.view.next)) v) c.as_slice-2.ensures)
