use Rattle.std.proofs.Common.{List, sym, subst}
use Rattle.ws2s_core.specs.declared.node.FormulaId.{FormulaId}
use Rattle.ws2s_lean.specs.Conjunctions.{IsConjunction, formula_of}
use Rattle.ws2s_lean.proofs.chain.conjuncts_of.Goals as goal

pub returns : goal.returns
returns c = λ there.
    let fs = c.args.interner.now in
    subst (λ (ids : List FormulaId). IsConjunction fs (formula_of fs c.args.id) ids) (sym c.in_ok-push.ensures.items) (c.in_ok-chain.ensures there)
