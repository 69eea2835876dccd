use Rattle.std.proofs.Common.{All, [], ◌∷◌}
use Rattle.ws2s_facts.specs.Conjuncts.{IsConjunct, formula_of}
use Rattle.ws2s_context.proofs.context.taken_conjuncts.Given as goal

abbrev pub invariant-loop-conjunct : goal.invariant-loop-conjunct
invariant-loop-conjunct l = All (IsConjunct l.interner (formula_of l.interner l.fn.left ∷ [])) l.taken.items
