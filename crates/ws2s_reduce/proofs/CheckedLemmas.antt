-- Texts of the tests are checked.
use Rattle.std.proofs.Common.{◌≡◌, ℕ, zero, suc, ◌&&◌, true, List, [], ◌∷◌, ◌++◌, refl, ap, ◌∙◌}
use Rattle.ws2s_syntax.specs.declared.formula.Quantifier.{Quantifier}
use Rattle.ws2s_syntax.specs.declared.formula.TextFormula.TheVariants.{Atom, Quantified}
use Rattle.ws2s_syntax.specs.declared.declaration.Class.{Class}
use Rattle.ws2s_syntax.specs.Sentences.{said, each_quantified}
use Rattle.ws2s_syntax.specs.Checked.{IsChecked, is_sentence}
use Rattle.ws2s_syntax.proofs.SentencesLemmas.{sentence-Atom, sentence-Quantified}
use Rattle.ws2s_reduce.specs.Examples.{variable, is_left_child, left_child, within_itself}

pub left_child_checked : IsChecked left_child
left_child_checked = record {
  names = ap (λ s. is_sentence [] (record { free = Class.Position ∷ []; local = [] }) s && true) (sentence-Atom is_left_child);
  few = refl;
}

nested_sentence : (names : ℕ) (local : List Class) →
    is_sentence [] (record { free = Class.Set ∷ []; local = local }) (each_quantified Quantifier.Ex2 names (said within_itself)) ≡ true
nested_sentence zero local = refl
nested_sentence (suc names) local = nested_sentence names (local ++ Class.Set ∷ [])

pub nested_checked : (names : ℕ) →
    IsChecked (record { free = variable 88 true ∷ []; predicates = []; formulas = Quantified Quantifier.Ex2 names (Atom within_itself) ∷ [] })
nested_checked names = record {
  names =
      ap (λ s. is_sentence [] (record { free = Class.Set ∷ []; local = [] }) s && true)
      (sentence-Quantified Quantifier.Ex2 names (Atom within_itself) ∙ ap (each_quantified Quantifier.Ex2 names) (sentence-Atom within_itself))
      ∙ ap (λ b. b && true) (nested_sentence names []);
  few = refl;
}
