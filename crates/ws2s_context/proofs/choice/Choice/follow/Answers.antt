use Rattle.std.proofs.Common.{arith, subst}
use Rattle.ws2s_core.specs.Nodes.{HasPartsBelow}
use Rattle.ws2s_facts.proofs.ConjunctsLemmas.{halves-below}
use Rattle.ws2s_context.proofs.choice.Choice.follow.Goals as goal

pub pass-requires : goal.pass-requires
pass-requires c =
    let l = c.steps in
    let below = halves-below l.next.0 c.in-And.f c.in-And.g (subst (HasPartsBelow l.next.0) c.in-And.is c.in-Some.ensures.parts) in
    omega (arith, below.0, l.invariant)
