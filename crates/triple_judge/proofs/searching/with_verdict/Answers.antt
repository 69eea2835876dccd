use Rattle.std.proofs.Common.{inl, inr, subst}
use Rattle.triple_judge.specs.Searching.{IsVerdictAt}
use Rattle.triple_judge.proofs.SearchingLemmas.{nothing-more}
use Rattle.triple_judge.proofs.searching.with_verdict.Goals as goal

pub returns-in-None-clause-value : goal.returns-in-None-clause-value
returns-in-None-clause-value c = λ formulas tracks before told.
    nothing-more formulas tracks c.args.site c.args.searched before (subst (IsVerdictAt formulas tracks c.args.site) c.in-None.is told)

pub returns-in-None-clause-limit : goal.returns-in-None-clause-limit
returns-in-None-clause-limit c = λ is. inl is

pub returns-in-Witness-clause-value : goal.returns-in-Witness-clause-value
returns-in-Witness-clause-value c = λ formulas tracks before told.
    c.with_tree.ensures.value formulas tracks before (subst (IsVerdictAt formulas tracks c.args.site) c.in-Witness.is told)

pub returns-in-Witness-clause-limit : goal.returns-in-Witness-clause-limit
returns-in-Witness-clause-limit c = λ is. inl (c.with_tree.ensures.limit is)

pub returns-in-Limit-clause-limit : goal.returns-in-Limit-clause-limit
returns-in-Limit-clause-limit c = λ is. inr c.in-Limit.is
