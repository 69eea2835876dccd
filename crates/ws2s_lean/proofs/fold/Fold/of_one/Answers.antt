use Rattle.std.proofs.Common.{List, sym, subst}
use Rattle.ws2s_core.specs.declared.node.FormulaId.{FormulaId}
use Rattle.ws2s_lean.specs.Conjunctions.{IsConjunction, formula_of}
use Rattle.ws2s_lean.proofs.ConjunctionsLemmas.{IsConjunction-one}
use Rattle.ws2s_lean.proofs.fold.Fold.of_one.Goals as goal

pub returns-clause-fold : goal.returns-clause-fold
returns-clause-fold c = λ formulas there. record {
  whole_there = there;
  conjunction = subst (λ (ids : List FormulaId). IsConjunction formulas (formula_of formulas c.args.first) ids) (sym c.in_ok-push.ensures.items)
      (IsConjunction-one formulas c.new-conjuncts.result.items c.args.first c.new-conjuncts.ensures.items there);
}
