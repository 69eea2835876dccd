use Rattle.std.proofs.Common.{ap, ◌∙◌}
use Rattle.site_list.specs.Triples.{started}
use Rattle.site_list.specs.Codes.{code}
use Rattle.symbolic_steps.specs.Shown.{shown}
use Rattle.pred_transform.proofs.formula.walk.Goals as goal

pub returns : goal.returns
returns c =
    let types = c.args.l.now.types in
    let vars = c.args.l.now.vars in
    let before = started types vars c.args.t.now.start in
    c.in_ok-code.ensures c.args.next c.args.wanted before c.in_ok-w.ensures
    ∙ ap (λ cuts. shown c.args.next c.args.wanted (code types vars cuts c.args.t.now.code before)) c.as_slice.ensures
