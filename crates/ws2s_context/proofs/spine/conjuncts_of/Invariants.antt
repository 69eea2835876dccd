use Rattle.std.proofs.Common.{[], ◌∷◌}
use Rattle.ws2s_facts.specs.Conjuncts.{AreConjuncts, formula_of}
use Rattle.ws2s_context.proofs.spine.conjuncts_of.Given as goal

abbrev pub invariant-looks : goal.invariant-looks
invariant-looks l = AreConjuncts l.interner (formula_of l.interner l.fn.id ∷ []) l.waiting.items l.found.items
