use Rattle.std.proofs.Common.{[], ap, ◌∙◌}
use Rattle.ws2s_syntax.specs.declared.formula.Quantifier.{Quantifier}
use Rattle.ws2s_syntax.specs.declared.formula.TextFormula.TheVariants.{Atom, Quantified}
use Rattle.ws2s_syntax.specs.Sentences.{quantified}
use Rattle.ws2s_syntax.proofs.SentencesLemmas.{sentence-Atom, sentence-Quantified}
use Rattle.ws2s_reduce.specs.Reducing.{reduced, no_reductions}
use Rattle.ws2s_reduce.specs.Examples.{inner_in_outer}
use Rattle.ws2s_reduce.proofs.examples.quantifiers_are_reduced.Goals as goal

pub returns : goal.returns
returns c =
    ap (reduced no_reductions 0 []) (sentence-Quantified Quantifier.Ex2 1 (Quantified Quantifier.All1 1 (Atom inner_in_outer))
    ∙ ap (quantified Quantifier.Ex2) (sentence-Quantified Quantifier.All1 1 (Atom inner_in_outer)
    ∙ ap (quantified Quantifier.All1) (sentence-Atom inner_in_outer)))
