use Rattle.std.proofs.Common.{List, sym, subst}
use Rattle.ws2s_core.specs.declared.node.FormulaId.{FormulaId}
use Rattle.ws2s_lean.specs.Conjunctions.{IsConjunction, formula_of}
use Rattle.ws2s_lean.proofs.leaning.leaned_conjunction.Goals as goal

pub refolded-requires-clause-conjunction : goal.refolded-requires-clause-conjunction
refolded-requires-clause-conjunction c =
    let fs = c.args.interner.now in
    subst (λ (ids : List FormulaId). IsConjunction fs (formula_of fs c.args.id) ids) (sym c.as_slice.ensures.value)
    (c.in_ok-conjuncts.ensures c.requires.there)
