use Rattle.std.proofs.Common.{All, length}
use Rattle.ws2s_core.specs.declared.formula.Formula.{Formula}
use Rattle.ws2s_core.specs.Nodes.{Extends}
use Rattle.ws2s_lean.specs.Conjunctions.{IsThere, IsFold, IsFolded, formula_of}
use Rattle.ws2s_lean.proofs.fold.fold_all.Given as goal

-- what comes of the conjuncts that are left comes of all of them
abbrev pub invariant-loop-conjunct : goal.invariant-loop-conjunct
invariant-loop-conjunct l = record {
  kept : Extends l.fn.interner l.interner;
  fold : IsFold l.interner l.fold;
  there : All (IsThere l.fn.interner) l.rest;
  folded : (g : Formula) → IsFolded l.fn.interner (formula_of l.interner l.fold.whole) l.rest g →
      IsFolded l.fn.interner (formula_of l.fn.interner l.fn.fold.whole) l.conjuncts g;
}

abbrev pub decreases-loop-conjunct : goal.decreases-loop-conjunct
decreases-loop-conjunct l = length l.rest
