use Rattle.std.proofs.Common.{[]}
use Rattle.std.proofs.lemmas.List.Elements.{All-nil}
use Rattle.ws2s_core.specs.declared.formula.Formula.TheVariants.{And, Not, Ex2}
use Rattle.ws2s_theory.proofs.ContextsLemmas.{SameUnder-refl, SameUnder-trans, SameUnder-and, SameUnder-not, SameUnder-ex2}
use Rattle.ws2s_theory.proofs.ContextsLemmas.{SameUnder-Same, Same-SameUnder, Same-sym}
use Rattle.ws2s_theory.proofs.contexts.same_formulas_are_a_congruence.Goals as goal

pub returns : goal.returns
returns c = record {
  reflexive = λ f. SameUnder-Same f f (SameUnder-refl [] f);
  symmetric = Same-sym;
  transitive = λ f g h first second. SameUnder-Same f h (SameUnder-trans [] f g h (Same-SameUnder [] f g first) (Same-SameUnder [] g h second));
  conjunction = λ f g f' g' on_left on_right. SameUnder-Same (And f g) (And f' g')
      (SameUnder-and [] [] f g f' g' (All-nil _) (Same-SameUnder [] f f' on_left) (Same-SameUnder [] g g' on_right));
  negation = λ f f' same. SameUnder-Same (Not f) (Not f') (SameUnder-not [] f f' (Same-SameUnder [] f f' same));
  quantifier = λ t f f' same. SameUnder-Same (Ex2 t f) (Ex2 t f') (SameUnder-ex2 [] [] t f f' (All-nil _) (Same-SameUnder [] f f' same));
}
