use Rattle.pale_print.specs.Tightness.{condition_tightness}
use Rattle.pale_print.proofs.ConditionLemmas.{at-Not, at-And, at-Or}
use Rattle.pale_print.proofs.Written.{so_ends}
use Rattle.pale_print.proofs.conditions.+conditions.Goals as goal

pub push_condition-returns-in-Not : goal.push_condition-returns-in-Not
push_condition-returns-in-Not t c = λ after whole is.
    so_ends _ _ (λ i. at-Not _ _ _ _ c.in-Not.is c.get.ensures i (condition_tightness c.args.asked) after)
    (c.push_mark.ensures _ _ (c.push_condition.ensures _ _ is))

pub push_condition-returns-in-And : goal.push_condition-returns-in-And
push_condition-returns-in-And t c = λ after whole is.
    so_ends _ _ (λ i. at-And _ _ _ _ _ (condition_tightness c.args.asked) _ c.in-And.is c.get-in-And.ensures c.as_slice.ensures
    c.is_grouped_at-needed.ensures i after)
    (c.open_group.ensures _ _ (c.push_condition-in-And.ensures _ _ (c.push_operands.ensures _ _ (c.close_group.ensures _ _ is))))

pub push_condition-returns-in-Or : goal.push_condition-returns-in-Or
push_condition-returns-in-Or t c = λ after whole is.
    so_ends _ _ (λ i. at-Or _ _ _ _ _ (condition_tightness c.args.asked) _ c.in-Or.is c.get-in-Or.ensures c.as_slice-in-Or.ensures
    c.is_grouped_at-needed-in-Or.ensures i after)
    (c.open_group-in-Or.ensures _ _ (c.push_condition-in-Or.ensures _ _ (c.push_operands-in-Or.ensures _ _ (c.close_group-in-Or.ensures _ _ is))))
