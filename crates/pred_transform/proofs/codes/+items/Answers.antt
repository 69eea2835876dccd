use Rattle.std.proofs.Common.{◌∙◌}
use Rattle.pred_transform.proofs.CodeLemmas.{items-step, if-walked}
use Rattle.pred_transform.proofs.codes.+items.Goals as goal

pub items-loop-next-preserved : goal.items-loop-next-preserved
items-loop-next-preserved t c =
    items-step c.args.l.now.types c.args.l.now.vars c.args.code.now c.loop-next.next-index c.next-item.result c.args.w.now c.loop-next.w c.item.new.w
    c.loop-next-test.true c.next-item.is c.loop-next.invariant c.in_ok-item.ensures

pub item-returns-in_ok-join-in-If : goal.item-returns-in_ok-join-in-If
item-returns-in_ok-join-in-If t c =
    if-walked c.args.l.now.types c.args.l.now.vars c.in-If.field-0 c.args.code.now c.in-If.cond c.in-If.taken c.in-If.other c.as_slice.result.now
    c.as_slice-in-If.result.now c.in_ok-fork-in-If.fork c.args.w.now c.take_first.new.w c.items.new.w c.take_other.new.w c.items-in-If.new.w c.join.new.w
    c.as_slice-in-If-2.result.now c.in-If.is c.as_slice.ensures c.as_slice-in-If.ensures (c.in_ok-fork-in-If.ensures c.in-If.field-0)
    c.in_ok-items-in-If.ensures
    (c.as_slice-in-If-2.ensures ∙ c.in_ok-first-in-If.ensures.0, c.in_ok-first-in-If.ensures.1) c.in_ok-items-in-If-2.ensures c.in_ok-join-in-If.ensures
