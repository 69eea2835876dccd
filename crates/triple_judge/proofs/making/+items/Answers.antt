use Rattle.triple_judge.proofs.SparesLemmas.{do_made, if_made, items_next}
use Rattle.triple_judge.proofs.making.+items.Goals as goal

pub push_item-returns-in_ok-push_act-in-Do : goal.push_item-returns-in_ok-push_act-in-Do
push_item-returns-in_ok-push_act-in-Do t c =
    do_made c.args.item.now c.in-Do.field-0 c.in-Do.act c.args.spares.now c.push_act.new.spares c.in-Do.is c.in_ok-push_act-in-Do.ensures

pub push_item-returns-in_ok-push_items-in-If-2 : goal.push_item-returns-in_ok-push_items-in-If-2
push_item-returns-in_ok-push_items-in-If-2 t c =
    if_made c.args.item.now c.in-If.field-0 c.in-If.field-1 c.in-If.taken c.in-If.other c.as_slice.result.now c.as_slice-in-If.result.now
    c.args.spares.now c.push_items.new.spares c.push_items-in-If.new.spares c.in-If.is c.as_slice.ensures c.as_slice-in-If.ensures
    c.in_ok-push_items-in-If.ensures c.in_ok-push_items-in-If-2.ensures

pub push_items-loop-item-preserved : goal.push_items-loop-item-preserved
push_items-loop-item-preserved t c =
    items_next c.args.items.now c.loop-item.item-index c.item-item.result c.args.spares.now c.loop-item.spares c.push_item.new.spares
    c.loop-item-test.true c.item-item.is c.loop-item.invariant c.in_ok-push_item.ensures
