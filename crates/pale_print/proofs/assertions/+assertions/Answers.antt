use Rattle.pale_print.specs.Tightness.{assertion_tightness}
use Rattle.pale_print.proofs.AssertionLemmas.{at-Not, at-And, at-Or, at-Imp, at-Iff, at-Quantified}
use Rattle.pale_print.proofs.Written.{so_ends}
use Rattle.pale_print.proofs.assertions.+assertions.Goals as goal

pub push_assertion-returns-in-And : goal.push_assertion-returns-in-And
push_assertion-returns-in-And t c = λ after whole is.
    so_ends _ _ (at-And _ _ _ _ _ (assertion_tightness c.args.asked) _ c.args.followed _ _ _ c.in-And.is c.get.ensures c.as_slice-in-And.ensures
    c.is_grouped_at-needed.ensures c.inside-last.ensures c.len.ensures c.goes_on.ensures after)
    (c.open_group.ensures _ _ (c.push_assertion.ensures _ _ (c.push_operands.ensures _ _ (c.close_group.ensures _ _ is))))

pub push_assertion-returns-in-Or : goal.push_assertion-returns-in-Or
push_assertion-returns-in-Or t c = λ after whole is.
    so_ends _ _ (at-Or _ _ _ _ _ (assertion_tightness c.args.asked) _ c.args.followed _ _ _ c.in-Or.is c.get-in-Or.ensures c.as_slice-in-Or.ensures
    c.is_grouped_at-needed-in-Or.ensures c.inside-last-in-Or.ensures c.len-in-Or.ensures c.goes_on-in-Or.ensures after)
    (c.open_group-in-Or.ensures _ _ (c.push_assertion-in-Or.ensures _ _ (c.push_operands-in-Or.ensures _ _ (c.close_group-in-Or.ensures _ _ is))))

pub push_assertion-returns-in-Imp : goal.push_assertion-returns-in-Imp
push_assertion-returns-in-Imp t c = λ after whole is.
    so_ends _ _ (at-Imp _ _ _ _ _ _ (assertion_tightness c.args.asked) _ c.args.followed _ c.in-Imp.is c.get-in-Imp.ensures c.get-in-Imp-2.ensures
    c.is_grouped_at-needed-in-Imp.ensures c.inside-last-in-Imp.ensures after)
    (c.open_group-in-Imp.ensures _ _ (c.push_assertion-in-Imp.ensures _ _ (c.push_mark.ensures _ _ (c.push_assertion-in-Imp-2.ensures _ _
    (c.close_group-in-Imp.ensures _ _ is)))))

pub push_assertion-returns-in-Iff : goal.push_assertion-returns-in-Iff
push_assertion-returns-in-Iff t c = λ after whole is.
    so_ends _ _ (at-Iff _ _ _ _ _ (assertion_tightness c.args.asked) _ c.args.followed _ _ _ c.in-Iff.is c.get-in-Iff.ensures c.as_slice-in-Iff.ensures
    c.is_grouped_at-needed-in-Iff.ensures c.inside-last-in-Iff.ensures c.len-in-Iff.ensures c.goes_on-in-Iff.ensures after)
    (c.open_group-in-Iff.ensures _ _ (c.push_assertion-in-Iff.ensures _ _ (c.push_operands-in-Iff.ensures _ _ (c.close_group-in-Iff.ensures _ _ is))))

pub push_assertion-returns-in-Not : goal.push_assertion-returns-in-Not
push_assertion-returns-in-Not t c = λ after whole is.
    so_ends _ _ (λ i. at-Not _ _ _ c.in-Not.is i (assertion_tightness c.args.asked) c.args.followed after) (c.push_denied.ensures _ _ is)

pub push_assertion-returns-in-Quantified : goal.push_assertion-returns-in-Quantified
push_assertion-returns-in-Quantified t c = λ after whole is.
    so_ends _ _ (λ i. at-Quantified _ _ _ c.in-Quantified.is i (assertion_tightness c.args.asked) c.args.followed after)
    (c.push_governed.ensures _ _ is)
