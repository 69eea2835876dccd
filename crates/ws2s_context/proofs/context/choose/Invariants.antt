use Rattle.ws2s_facts.specs.Conjuncts.{IsAmong}
use Rattle.ws2s_context.proofs.context.choose.Given as goal

abbrev pub invariant-loop-conjunct : goal.invariant-loop-conjunct
invariant-loop-conjunct l = IsAmong l.fn.chosen.items l.conjuncts l.chosen.items
