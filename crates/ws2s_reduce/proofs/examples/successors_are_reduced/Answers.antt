use Rattle.std.proofs.Common.{[], ap, ◌∙◌}
use Rattle.ws2s_syntax.specs.declared.formula.Quantifier.{Quantifier}
use Rattle.ws2s_syntax.specs.declared.formula.TextFormula.TheVariants.{Atom, Not}
use Rattle.ws2s_syntax.specs.Sentences.{negated, quantified}
use Rattle.ws2s_syntax.proofs.SentencesLemmas.{sentence-Atom, sentence-Not, sentence-Quantified}
use Rattle.ws2s_reduce.specs.Reducing.{reduced, no_reductions}
use Rattle.ws2s_reduce.specs.Examples.{children_same}
use Rattle.ws2s_reduce.proofs.examples.successors_are_reduced.Goals as goal

pub returns : goal.returns
returns c =
    ap (reduced no_reductions 0 []) (sentence-Quantified Quantifier.All1 1 (Not (Atom children_same))
    ∙ ap (quantified Quantifier.All1) (sentence-Not (Atom children_same) ∙ ap negated (sentence-Atom children_same)))
