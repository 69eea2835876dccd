use Rattle.store_runner.proofs.StandingLemmas.{Do-lighter, If-found, If-lighter, If-left, If-left-lighter}
use Rattle.store_runner.proofs.asserting.+standing.Goals as goal

pub stands_in_first-returns-in-Do-clause-less : goal.stands_in_first-returns-in-Do-clause-less
stands_in_first-returns-in-Do-clause-less t c = Do-lighter c.args.item.now c.in-Do.field-0 c.in-Do.act c.args.more.now c.in-Do.is

pub stands_in_first-returns-then-found-clause-found : goal.stands_in_first-returns-then-found-clause-found
stands_in_first-returns-then-found-clause-found t c =
    If-found c.args.item.now c.in-If.field-0 c.in-If.field-1 c.in-If.taken c.in-If.other c.as_slice.result.now c.as_slice-in-If.result.now c.args.more.now
    c.in-If.is c.as_slice.ensures c.as_slice-in-If.ensures c.in_ok-found-in-If.found c.in_ok-found-in-If.left.now c.in_ok-found-in-If.ensures.found
    c.if-found.true

pub stands_in_first-returns-then-found-clause-less : goal.stands_in_first-returns-then-found-clause-less
stands_in_first-returns-then-found-clause-less t c =
    If-lighter c.args.item.now c.in-If.field-0 c.in-If.field-1 c.in-If.taken c.in-If.other c.as_slice.result.now c.as_slice-in-If.result.now c.args.more.now
    c.in-If.is c.as_slice.ensures c.as_slice-in-If.ensures

pub stands_in_first-returns-else-found-clause-found : goal.stands_in_first-returns-else-found-clause-found
stands_in_first-returns-else-found-clause-found t c =
    If-left c.args.item.now c.in-If.field-0 c.in-If.field-1 c.in-If.taken c.in-If.other c.as_slice.result.now c.as_slice-in-If.result.now c.args.more.now
    c.in-If.is c.as_slice.ensures c.as_slice-in-If.ensures c.in_ok-found-in-If.found c.in_ok-found-in-If.left.now c.in_ok-found-in-If.ensures.found
    c.in_ok-found-in-If.ensures.less c.if-found.false c.stands_in_simpler-in-If.result c.stands_in_simpler-in-If.ensures.found

pub stands_in_first-returns-else-found-clause-less : goal.stands_in_first-returns-else-found-clause-less
stands_in_first-returns-else-found-clause-less t c =
    If-left-lighter c.args.item.now c.in-If.field-0 c.in-If.field-1 c.in-If.taken c.in-If.other c.as_slice.result.now c.as_slice-in-If.result.now
    c.args.more.now
    c.in-If.is c.as_slice.ensures c.as_slice-in-If.ensures c.in_ok-found-in-If.found c.in_ok-found-in-If.left.now c.in_ok-found-in-If.ensures.found
    c.in_ok-found-in-If.ensures.less c.stands_in_simpler-in-If.result c.stands_in_simpler-in-If.ensures.less
