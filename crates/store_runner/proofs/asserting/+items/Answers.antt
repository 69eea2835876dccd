use Rattle.store_exec.proofs.ActingLemmas.{taken-asserts, other-asserts}
use Rattle.store_runner.proofs.asserting.+items.Goals as goal

pub find_in_item-returns-then-find_in_items : goal.find_in_item-returns-then-find_in_items
find_in_item-returns-then-find_in_items t c =
    taken-asserts c.args.item.now c.in-If.field-0 c.in-If.field-1 c.in-If.taken c.in-If.other c.as_slice.result.now c.find_in_items.result c.in-If.is
    c.as_slice.ensures c.find_in_items.ensures c.if-find_in_items.true

pub find_in_item-returns-else-find_in_items : goal.find_in_item-returns-else-find_in_items
find_in_item-returns-else-find_in_items t c =
    other-asserts c.args.item.now c.in-If.field-0 c.in-If.field-1 c.in-If.taken c.in-If.other c.as_slice.result.now c.find_in_items.result
    c.as_slice-else-find_in_items.result.now c.find_in_items-else-find_in_items.result c.in-If.is c.as_slice.ensures c.find_in_items.ensures
    c.if-find_in_items.false c.as_slice-else-find_in_items.ensures c.find_in_items-else-find_in_items.ensures
