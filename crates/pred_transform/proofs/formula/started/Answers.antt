use Rattle.std.proofs.Common.{Some, sym, ap, ◌∙◌}
use Rattle.site_list.specs.Triples.{at_start}
use Rattle.pred_transform.proofs.FormulaLemmas.{started-returned, started-plain}
use Rattle.pred_transform.proofs.formula.started.Goals as goal

pub returns-in_ok-_part-in-Some : goal.returns-in_ok-_part-in-Some
returns-in_ok-_part-in-Some c =
    let types = c.args.l.now.types in
    let vars = c.args.l.now.vars in
    started-returned types vars c.args.start.now c.args.next c.args.wanted c.as_slice.result.now c.with_part.new.w
    (c.in-Some.is ∙ ap Some (sym c.as_slice.ensures))
    (c.in_ok-_part-in-Some.ensures c.args.next c.args.wanted (at_start types vars) c.in_ok-w.ensures).1

pub returns-in-None : goal.returns-in-None
returns-in-None c = started-plain c.args.l.now.types c.args.l.now.vars c.args.start.now c.args.next c.args.wanted c.in_ok-w.w c.in-None.is c.in_ok-w.ensures
