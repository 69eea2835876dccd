use Rattle.std.proofs.Common.{◌||◌, ◌+◌, ◌≤◌, ◌∙◌, sym, ap, ap₂, subst, Bool, arith}
use Rattle.store_exec.specs.declared.code.Code.{Code}
use Rattle.store_exec.specs.Acting.{acts_of, have_assert, code_count}
use Rattle.store_exec.proofs.ActingLemmas.{items-assert, cut-asserts_not, branch-asserts, count-branch}
use Rattle.store_runner.proofs.asserting.+finding.Goals as goal

pub find_within-returns-then-stands_in_items : goal.find_within-returns-then-stands_in_items
find_within-returns-then-stands_in_items t c =
    sym (items-assert c.loop-rest.rest.now c.as_slice.result.now c.stands_in_items.result c.as_slice.ensures c.stands_in_items.ensures
    c.if-stands_in_items.true) ∙ c.loop-rest.invariant

pub find_within-returns-in-Cut : goal.find_within-returns-in-Cut
find_within-returns-in-Cut t c =
    sym (cut-asserts_not c.loop-rest.rest.now c.as_slice.result.now c.stands_in_items.result c.in-Cut.field-0 c.as_slice.ensures c.stands_in_items.ensures
    c.if-stands_in_items.false c.in-Cut.is) ∙ c.loop-rest.invariant

pub find_within-returns-then-found : goal.find_within-returns-then-found
find_within-returns-then-found t c =
    sym (ap (λ (b : Bool). b || have_assert (acts_of c.in_ok-found-in-Branch.next.now)) c.if-found.true)
    ∙ c.in_ok-found-in-Branch.ensures.found
    ∙ ap₂ (λ (x y : Code). have_assert (acts_of x) || have_assert (acts_of y)) c.get.ensures c.get-in-Branch.ensures
    ∙ sym (branch-asserts c.loop-rest.rest.now c.as_slice.result.now c.stands_in_items.result c.in-Branch.field-0 c.in-Branch.field-1 c.in-Branch.taken
    c.in-Branch.other c.as_slice.ensures c.stands_in_items.ensures c.if-stands_in_items.false c.in-Branch.is)
    ∙ c.loop-rest.invariant

pub find_within-loop-rest-preserved : goal.find_within-loop-rest-preserved
find_within-loop-rest-preserved t c =
    sym (ap (λ (b : Bool). b || have_assert (acts_of c.in_ok-found-in-Branch.next.now)) c.if-found.false)
    ∙ c.in_ok-found-in-Branch.ensures.found
    ∙ ap₂ (λ (x y : Code). have_assert (acts_of x) || have_assert (acts_of y)) c.get.ensures c.get-in-Branch.ensures
    ∙ sym (branch-asserts c.loop-rest.rest.now c.as_slice.result.now c.stands_in_items.result c.in-Branch.field-0 c.in-Branch.field-1 c.in-Branch.taken
    c.in-Branch.other c.as_slice.ensures c.stands_in_items.ensures c.if-stands_in_items.false c.in-Branch.is)
    ∙ c.loop-rest.invariant

pub find_within-loop-rest-smaller : goal.find_within-loop-rest-smaller
find_within-loop-rest-smaller t c =
    let less = subst (λ (x : Code). code_count c.in_ok-found-in-Branch.next.now ≤ code_count x + code_count c.in-Branch.other) c.get.ensures
    (subst (λ (y : Code). code_count c.in_ok-found-in-Branch.next.now ≤ code_count c.get.result.now + code_count y) c.get-in-Branch.ensures
    c.in_ok-found-in-Branch.ensures.less) in
    let whole = count-branch c.loop-rest.rest.now c.in-Branch.field-0 c.in-Branch.field-1 c.in-Branch.taken c.in-Branch.other c.in-Branch.is in
    omega (arith, less, whole)
