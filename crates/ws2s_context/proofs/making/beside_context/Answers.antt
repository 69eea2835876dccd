use Rattle.std.proofs.Common.{◌∷◌, [], sym, subst, Option}
use Rattle.ws2s_core.specs.declared.formula.Formula.{Formula}
use Rattle.ws2s_core.specs.declared.node.FormulaId.{FormulaId}
use Rattle.ws2s_theory.specs.Contexts.{SameUnder}
use Rattle.ws2s_facts.specs.Conjuncts.{formula_of, context_at}
use Rattle.ws2s_facts.proofs.ConjunctsLemmas.{made-And}
use Rattle.ws2s_context.proofs.GoingLemmas.{SameUnder-beside}
use Rattle.ws2s_context.proofs.making.beside_context.Goals as goal

pub returns-in_ok-made-in-Some-clause-same : goal.returns-in_ok-made-in-Some-clause-same
returns-in_ok-made-in-Some-clause-same c =
    let old = c.args.interner.now in
    let new = c.make.new.interner in
    subst (λ (context : Option FormulaId). SameUnder (context_at old context) (formula_of old c.args.id) (formula_of new c.in_ok-made-in-Some.made))
    (sym c.in-Some.is)
    (subst (λ (f : Formula). SameUnder (formula_of old c.in-Some.known ∷ []) (formula_of old c.args.id) f)
    (sym (made-And old new c.in_ok-made-in-Some.made c.in-Some.known c.args.id c.in_ok-made-in-Some.ensures.value))
    (SameUnder-beside (formula_of old c.in-Some.known) (formula_of old c.args.id)))
