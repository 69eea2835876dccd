use Rattle.std.proofs.Common.{◌∙◌, [], ◌∷◌, sym, ap, Option}
use Rattle.ws2s_core.specs.declared.formula.Formula.{Formula}
use Rattle.ws2s_core.specs.declared.node.FormulaId.{FormulaId}
use Rattle.ws2s_facts.specs.Conjuncts.{formula_of, context_at, after}
use Rattle.ws2s_facts.proofs.ConjunctsLemmas.{made-And}
use Rattle.ws2s_context.proofs.context.put_after.Goals as goal

pub returns-in_ok-made-in-Some-clause-value : goal.returns-in_ok-made-in-Some-clause-value
returns-in_ok-made-in-Some-clause-value c =
    let old = c.args.interner.now in
    ap (λ (f : Formula). f ∷ [])
    (made-And old c.make.new.interner c.in_ok-made-in-Some.made c.in-Some.rest c.args.conjunct c.in_ok-made-in-Some.ensures.value)
    ∙ ap (λ (context : Option FormulaId). after (context_at old context) (formula_of old c.args.conjunct)) (sym c.in-Some.is)
