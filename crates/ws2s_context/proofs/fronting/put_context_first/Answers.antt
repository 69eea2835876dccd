use Rattle.std.proofs.Common.{sym, subst, Option}
use Rattle.ws2s_core.specs.declared.node.FormulaId.{FormulaId}
use Rattle.ws2s_theory.specs.Contexts.{SameUnder}
use Rattle.ws2s_facts.specs.Conjuncts.{formula_of, context_at}
use Rattle.ws2s_context.proofs.FrontingLemmas.{SameUnder-fronted}
use Rattle.ws2s_context.proofs.fronting.put_context_first.Goals as goal

pub returns-in_ok-made-in-Some-clause-same : goal.returns-in_ok-made-in-Some-clause-same
returns-in_ok-made-in-Some-clause-same c =
    let old = c.args.interner.now in
    let new = c.put_first.new.interner in
    subst (λ (context : Option FormulaId). SameUnder (context_at old context) (formula_of old c.args.id) (formula_of new c.in_ok-made-in-Some.made))
    (sym c.in-Some.is)
    (SameUnder-fronted (formula_of old c.in-Some.known) (formula_of old c.args.id) (formula_of new c.in_ok-made-in-Some.made)
    c.in_ok-made-in-Some.ensures.same)
