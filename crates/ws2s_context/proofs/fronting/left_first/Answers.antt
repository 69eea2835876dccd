use Rattle.std.proofs.Common.{sym, subst}
use Rattle.ws2s_core.specs.declared.formula.Formula.{Formula}
use Rattle.ws2s_core.specs.Satisfaction.{Same}
use Rattle.ws2s_lean.proofs.NumbersLemmas.{at-And}
use Rattle.ws2s_facts.specs.Conjuncts.{formula_of}
use Rattle.ws2s_context.proofs.fronting.left_first.Goals as goal

pub returns-in_ok-made-in-And-clause-same : goal.returns-in_ok-made-in-And-clause-same
returns-in_ok-made-in-And-clause-same c =
    let old = c.args.interner.now in
    subst (λ (f : Formula). Same f (formula_of c.put_first.new.interner c.in_ok-made-in-And.made))
    (sym (at-And old c.args.id c.in-And.f c.in-And.g c.in-Some.node c.in-Some.ensures.value c.in-And.is)) c.in_ok-made-in-And.ensures.same
