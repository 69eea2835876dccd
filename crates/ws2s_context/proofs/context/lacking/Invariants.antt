use Rattle.std.proofs.Common.{All}
use Rattle.ws2s_facts.specs.Conjuncts.{IsUnbound, context_at}
use Rattle.ws2s_context.proofs.context.lacking.Given as goal

abbrev pub invariant-loop-conjunct : goal.invariant-loop-conjunct
invariant-loop-conjunct l = All (IsUnbound l.interner (context_at l.interner l.fn.context) l.fn.t.0) l.unbound.items
