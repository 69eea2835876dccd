use Rattle.std.proofs.Common.{[]}
use Rattle.ws2s_core.specs.declared.formula.Formula.TheVariants.{And}
use Rattle.ws2s_syntax.proofs.SentencesLemmas.{sentence-Atom}
use Rattle.ws2s_reduce.specs.Reducing.{reduced, no_reductions}
use Rattle.ws2s_reduce.specs.Examples.{root_in}
use Rattle.ws2s_reduce.proofs.examples.formulas_are_joined.Goals as goal

pub returns : goal.returns
returns c = λ i.
    And (And (And
    (reduced no_reductions 4 [] (sentence-Atom (root_in 0) i))
    (reduced no_reductions 4 [] (sentence-Atom (root_in 1) i)))
    (reduced no_reductions 4 [] (sentence-Atom (root_in 2) i)))
    (reduced no_reductions 4 [] (sentence-Atom (root_in 3) i))
