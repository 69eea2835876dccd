use Rattle.ws2s_lean.specs.Conjunctions.{IsThere, IsConjunction, formula_of, members}
use Rattle.ws2s_lean.proofs.chain.chain_of.Given as goal

abbrev pub invariant-steps : goal.invariant-steps
invariant-steps l = IsThere l.interner l.fn.id → IsConjunction l.interner (formula_of l.interner l.fn.id) (members l.chain)
