use Rattle.site_list.proofs.CauseLemmas.{if_made}
use Rattle.site_list.proofs.codes.+items.Goals as goal

pub push_item-returns-in_ok-push_items-in-If-2 : goal.push_item-returns-in_ok-push_items-in-If-2
push_item-returns-in_ok-push_items-in-If-2 t c =
    if_made c.args.types.now c.in-If.line c.args.item.now c.in-If.cond c.in-If.taken c.in-If.other c.as_slice.result.now c.as_slice-in-If.result.now
    c.args.sites.now c.push_cond.new.sites c.push_items.new.sites c.push_items-in-If.new.sites c.in-If.is c.as_slice.ensures c.as_slice-in-If.ensures
    c.in_ok-push_cond-in-If.ensures c.in_ok-push_items-in-If.ensures c.in_ok-push_items-in-If-2.ensures
