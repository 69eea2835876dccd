use Rattle.std.proofs.Common.{◌∙◌, sym, ap}
use Rattle.store_exec.specs.declared.code.Code.{Code}
use Rattle.store_exec.specs.Acting.{acts_of, have_assert}
use Rattle.store_exec.proofs.ActingLemmas.{or-first, or-second, items-assert, cut-asserts_not, branch-asserts}
use Rattle.store_runner.proofs.asserting.+find.Goals as goal

pub returns-then-stands_in_items : goal.returns-then-stands_in_items
returns-then-stands_in_items t c =
    sym (items-assert c.args.code.now c.as_slice.result.now c.stands_in_items.result c.as_slice.ensures c.stands_in_items.ensures c.if-stands_in_items.true)

pub returns-in-Cut : goal.returns-in-Cut
returns-in-Cut t c =
    sym (cut-asserts_not c.args.code.now c.as_slice.result.now c.stands_in_items.result c.in-Cut.field-0 c.as_slice.ensures c.stands_in_items.ensures
    c.if-stands_in_items.false c.in-Cut.is)

pub returns-then-find : goal.returns-then-find
returns-then-find t c =
    or-first (have_assert (acts_of c.in-Branch.taken)) (have_assert (acts_of c.in-Branch.other)) c.find.result
    (c.find.ensures ∙ ap (λ (x : Code). have_assert (acts_of x)) c.get.ensures) c.if-find.true
    ∙ sym (branch-asserts c.args.code.now c.as_slice.result.now c.stands_in_items.result c.in-Branch.field-0 c.in-Branch.field-1 c.in-Branch.taken
    c.in-Branch.other c.as_slice.ensures c.stands_in_items.ensures c.if-stands_in_items.false c.in-Branch.is)

pub returns-else-find : goal.returns-else-find
returns-else-find t c =
    c.find-else-find.ensures ∙ ap (λ (x : Code). have_assert (acts_of x)) c.get-else-find.ensures
    ∙ sym (or-second (have_assert (acts_of c.in-Branch.taken)) (have_assert (acts_of c.in-Branch.other)) c.find.result
    (c.find.ensures ∙ ap (λ (x : Code). have_assert (acts_of x)) c.get.ensures) c.if-find.false)
    ∙ sym (branch-asserts c.args.code.now c.as_slice.result.now c.stands_in_items.result c.in-Branch.field-0 c.in-Branch.field-1 c.in-Branch.taken
    c.in-Branch.other c.as_slice.ensures c.stands_in_items.ensures c.if-stands_in_items.false c.in-Branch.is)
