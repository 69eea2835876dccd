use Rattle.pred_transform.proofs.CodeLemmas.{cut-walked, branch-walked}
use Rattle.pred_transform.proofs.codes.+code.Goals as goal

pub returns-in_ok-arrive_at-in-Cut : goal.returns-in_ok-arrive_at-in-Cut
returns-in_ok-arrive_at-in-Cut t c =
    cut-walked c.args.l.now.types c.args.l.now.vars c.args.cuts.now c.args.whole.now c.as_slice.result.now c.in-Cut.place c.args.w.now c.items.new.w
    c.arrive_at.new.w c.as_slice.ensures c.in-Cut.is c.in_ok-items.ensures c.in_ok-arrive_at-in-Cut.ensures

pub returns-in_ok-code-in-Branch-2 : goal.returns-in_ok-code-in-Branch-2
returns-in_ok-code-in-Branch-2 t c =
    branch-walked c.args.l.now.types c.args.l.now.vars c.args.cuts.now c.args.whole.now c.as_slice.result.now c.in-Branch.field-0 c.in-Branch.cond
    c.in-Branch.taken c.in-Branch.other c.get.result.now c.get-in-Branch.result.now c.in_ok-fork-in-Branch.fork c.args.w.now c.items.new.w c.take_first.new.w
    c.code.new.w c.take_other_code.new.w c.code-in-Branch.new.w c.as_slice.ensures c.in-Branch.is c.get.ensures c.get-in-Branch.ensures c.in_ok-items.ensures
    (c.in_ok-fork-in-Branch.ensures c.in-Branch.field-0) c.in_ok-code-in-Branch.ensures c.in_ok-take_other_code-in-Branch.ensures
    c.in_ok-code-in-Branch-2.ensures
