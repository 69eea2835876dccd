use Rattle.std.proofs.Common.{◌≡◌, ◌++◌, map, reverse, flat_map, sum_by}
use Rattle.store_logic.specs.Postfix.{postfix_of, form_of, form_count}
use Rattle.store_logic.proofs.assertion.Assertion.in_postfix.Given as goal

-- the forms of the assertions that are left, and those so far from the last, are the assertion's
abbrev pub invariant-loop-next : goal.invariant-loop-next
invariant-loop-next l =
    flat_map postfix_of (map (λ part. part.now) l.pending.items) ++ reverse (map (λ form. form_of form.now) l.forms.items) ≡ postfix_of l.self

abbrev pub decreases-loop-next : goal.decreases-loop-next
decreases-loop-next l = sum_by form_count (map (λ part. part.now) l.pending.items)
