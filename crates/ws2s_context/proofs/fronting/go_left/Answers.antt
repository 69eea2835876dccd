use Rattle.ws2s_lean.proofs.NumbersLemmas.{at-And, halves-below}
use Rattle.ws2s_context.proofs.FrontingLemmas.{IsConjunction-left}
use Rattle.ws2s_context.proofs.fronting.go_left.Goals as goal

pub returns-in_ok-push-in-And : goal.returns-in_ok-push-in-And
returns-in_ok-push-in-And c = λ f was.
    let fs = c.args.interner.now in
    let old = c.args.chain.now in
    IsConjunction-left fs f old.others.items c.push.new.self.items old.first c.in-And.f c.in-And.g c.in_ok-push-in-And.ensures.items
    (at-And fs old.first c.in-And.f c.in-And.g c.in-Some.node c.in-Some.ensures.value c.in-And.is)
    (halves-below old.first.0 c.in-And.f c.in-And.g c.in-Some.node c.in-Some.ensures.parts c.in-And.is) was
