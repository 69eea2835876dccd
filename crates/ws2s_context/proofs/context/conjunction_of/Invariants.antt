use Rattle.std.proofs.Common.{◌≡◌, [], All, length}
use Rattle.ws2s_core.specs.Nodes.{Extends}
use Rattle.ws2s_facts.specs.Conjuncts.{IsThere, IsContext, context_at, joined, formulas_at}
use Rattle.ws2s_facts.specs.Facts.{AreFacts}
use Rattle.ws2s_context.proofs.context.conjunction_of.Given as goal

abbrev pub invariant-loop-conjunct : goal.invariant-loop-conjunct
invariant-loop-conjunct l = record {
  kept : Extends l.fn.interner l.interner;
  there : IsContext l.interner l.context;
  inside : All (IsThere l.fn.interner) l.rest;
  value : joined (context_at l.interner l.context) (formulas_at l.fn.interner l.rest)
      ≡ joined [] (formulas_at l.fn.interner l.fn.conjuncts.items);
  facts : AreFacts l.interner l.facts.facts.items;
}

abbrev pub decreases-loop-conjunct : goal.decreases-loop-conjunct
decreases-loop-conjunct l = length l.rest
