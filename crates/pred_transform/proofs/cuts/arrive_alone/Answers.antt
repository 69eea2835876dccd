use Rattle.std.proofs.Common.{None, ap, ◌∙◌}
use Rattle.ws2s_core.specs.declared.formula.Formula.TheVariants.{Not}
use Rattle.graph_view.specs.Sights.{sight_of}
use Rattle.symbolic_steps.specs.Shown.{checked}
use Rattle.pred_transform.specs.Holding.{claims_hold}
use Rattle.symbolic_steps.proofs.ShownLemmas.{guard-shown}
use Rattle.pred_transform.proofs.CutLemmas.{alone-arrived}
use Rattle.pred_transform.proofs.cuts.arrive_alone.Goals as goal

pub returns : goal.returns
returns c = λ next wanted s is.
    let types = c.args.l.now.types in
    let vars = c.args.l.now.vars in
    let w = c.check_stores.new.w in
    let here = guard-shown next wanted s c.args.w.now c.in_ok-here.here c.in_ok-here.ensures is in
    alone-arrived types vars next wanted c.args.cut.now s w c.check_claims.new.w c.in_ok-here.here here
    (c.in_ok-check_stores.ensures c.args.cut.now.line next wanted s here is)
    (c.in_ok-check_claims.ensures
    ∙ ap (λ cs. checked c.in_ok-here.here (Not (claims_hold types (sight_of vars w.view) w.view.vars None cs w.view.next)) w) c.as_slice.ensures)
