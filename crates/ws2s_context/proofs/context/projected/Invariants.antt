use Rattle.std.proofs.Common.{[], ◌∷◌}
use Rattle.ws2s_core.specs.Nodes.{Extends}
use Rattle.ws2s_facts.specs.Conjuncts.{IsConjunct, formula_of}
use Rattle.ws2s_facts.specs.Facts.{AreFacts}
use Rattle.ws2s_context.proofs.context.projected.Given as goal

abbrev pub invariant-loop-t : goal.invariant-loop-t
invariant-loop-t l = record {
  kept : Extends l.fn.interner l.interner;
  conjunct : IsConjunct l.interner (formula_of l.interner l.fn.id ∷ []) l.made;
  facts : AreFacts l.interner l.facts.facts.items;
}
