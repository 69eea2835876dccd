use Rattle.std.proofs.Common.{◌≡◌, All, vec_len}
use Rattle.ws2s_core.specs.Nodes.{Extends}
use Rattle.ws2s_theory.specs.Contexts.{conjoined}
use Rattle.ws2s_facts.specs.Conjuncts.{IsThere, formula_of, formulas_at}
use Rattle.ws2s_facts.specs.Facts.{AreFacts}
use Rattle.ws2s_context.specs.Opening.{spined}
use Rattle.ws2s_context.proofs.opening.joined_again.Given as goal

abbrev pub invariant-loop-conjunct : goal.invariant-loop-conjunct
invariant-loop-conjunct l = record {
  kept : Extends l.fn.interner l.interner;
  inside : All (IsThere l.fn.interner) l.conjuncts.items;
  there : IsThere l.interner l.made;
  value : conjoined (formulas_at l.fn.interner l.conjuncts.items) (formula_of l.interner l.made) ≡ spined l.fn.interner l.fn.spine;
  facts : AreFacts l.interner l.facts.facts.items;
}

abbrev pub decreases-loop-conjunct : goal.decreases-loop-conjunct
decreases-loop-conjunct l = vec_len l.conjuncts
