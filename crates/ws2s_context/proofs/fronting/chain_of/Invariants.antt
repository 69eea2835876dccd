use Rattle.ws2s_lean.specs.Conjunctions.{IsConjunction}
use Rattle.ws2s_facts.specs.Conjuncts.{formula_of}
use Rattle.ws2s_context.specs.Fronting.{links}
use Rattle.ws2s_context.proofs.fronting.chain_of.Given as goal

abbrev pub invariant-steps : goal.invariant-steps
invariant-steps l = IsConjunction l.interner (formula_of l.interner l.fn.id) (links l.chain)
