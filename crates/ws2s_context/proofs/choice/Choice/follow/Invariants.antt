use Rattle.ws2s_facts.specs.Conjuncts.{IsThere}
use Rattle.ws2s_context.proofs.choice.Choice.follow.Given as goal

abbrev pub invariant-steps : goal.invariant-steps
invariant-steps l = IsThere l.interner l.next
