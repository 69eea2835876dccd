use Rattle.std.proofs.Common.{All, length}
use Rattle.ws2s_core.specs.declared.formula.Formula.{Formula}
use Rattle.ws2s_core.specs.Nodes.{Extends}
use Rattle.ws2s_facts.specs.Conjuncts.{IsThere, formula_of}
use Rattle.ws2s_facts.specs.Facts.{AreFacts}
use Rattle.ws2s_lean.specs.Conjunctions.{IsFolded}
use Rattle.ws2s_plan.proofs.conjunctions.conjunction_of.Given as goal

abbrev pub invariant-loop-conjunct : goal.invariant-loop-conjunct
invariant-loop-conjunct l = record {
  kept : Extends l.fn.interner l.interner;
  there : IsThere l.interner l.made;
  inside : All (IsThere l.fn.interner) l.rest;
  folded : (g : Formula) → IsFolded l.fn.interner (formula_of l.interner l.made) l.rest g →
      IsFolded l.fn.interner (formula_of l.fn.interner l.fn.first) l.fn.others g;
  facts : AreFacts l.interner l.facts.facts.items;
}

abbrev pub decreases-loop-conjunct : goal.decreases-loop-conjunct
decreases-loop-conjunct l = length l.rest
