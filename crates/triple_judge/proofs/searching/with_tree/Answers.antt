use Rattle.std.proofs.Common.{subst}
use Rattle.triple_judge.specs.Searching.{IsSearched}
use Rattle.triple_judge.proofs.SearchingLemmas.{first-found, lighter-stays}
use Rattle.triple_judge.proofs.searching.with_tree.Goals as goal

pub returns-in-Nothing-clause-value : goal.returns-in-Nothing-clause-value
returns-in-Nothing-clause-value c = λ formulas tracks before own.
    first-found formulas tracks c.args.found (subst (IsSearched formulas tracks c.args.found.site) c.in-Nothing.is before) own

pub returns-in-Lightest-clause-value : goal.returns-in-Lightest-clause-value
returns-in-Lightest-clause-value c = λ formulas tracks before own.
    lighter-stays formulas tracks c.in-Lightest.best c.args.found c.lighter.result
    (subst (IsSearched formulas tracks c.args.found.site) c.in-Lightest.is before) own c.lighter.ensures.later c.lighter.ensures.earlier

pub returns-in-Limit-clause-limit : goal.returns-in-Limit-clause-limit
returns-in-Limit-clause-limit c = λ is. c.in-Limit.is
