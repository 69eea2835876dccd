use Rattle.std.proofs.Common.{◌∷◌}
use Rattle.ws2s_theory.proofs.ContextsLemmas.{SameUnder-refl, SameUnder-sym, SameUnder-trans, SameUnder-entailed, SameUnder-and, SameUnder-not}
use Rattle.ws2s_theory.proofs.ContextsLemmas.{SameUnder-ex2, SameUnder-Same, Same-SameUnder, All-members, All-members_under}
use Rattle.ws2s_theory.proofs.contexts.same_formulas_under_a_context_are_a_congruence.Goals as goal

pub returns : goal.returns
returns c = record {
  reflexive = SameUnder-refl;
  symmetric = SameUnder-sym;
  transitive = SameUnder-trans;
  same = Same-SameUnder;
  empty = SameUnder-Same;
  entailed = SameUnder-entailed;
  conjunction = λ context f g f' g'. SameUnder-and context (f ∷ context) f g f' g' (All-members (f ∷ context));
  negation = SameUnder-not;
  quantifier = λ context t f f' unbound. SameUnder-ex2 context context t f f' (All-members_under context t.0 unbound);
}
