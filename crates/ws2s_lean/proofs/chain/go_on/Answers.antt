use Rattle.ws2s_lean.proofs.NumbersLemmas.{at-And, halves-below}
use Rattle.ws2s_lean.proofs.ConjunctionsLemmas.{IsConjunction-step}
use Rattle.ws2s_lean.proofs.chain.go_on.Goals as goal

pub returns-in_ok-push-in-And : goal.returns-in_ok-push-in-And
returns-in_ok-push-in-And c = λ f was.
    let fs = c.args.interner.now in
    let old = c.args.chain.now in
    IsConjunction-step fs f old.conjuncts.items _ old.last c.in-And.f c.in-And.g c.in_ok-push-in-And.ensures.items
    (at-And fs old.last c.in-And.f c.in-And.g c.in-Some.node c.in-Some.ensures.value c.in-And.is)
    (halves-below old.last.0 c.in-And.f c.in-And.g c.in-Some.node c.in-Some.ensures.parts c.in-And.is) was
