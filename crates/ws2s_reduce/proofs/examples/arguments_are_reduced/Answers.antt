use Rattle.std.proofs.Common.{[]}
use Rattle.ws2s_syntax.proofs.SentencesLemmas.{sentence-Atom}
use Rattle.ws2s_reduce.specs.Reducing.{reduced, no_reductions, with_reduction}
use Rattle.ws2s_reduce.specs.Examples.{first_in_second, root_at_set}
use Rattle.ws2s_reduce.proofs.examples.arguments_are_reduced.Goals as goal

pub returns : goal.returns
returns c = λ i.
    reduced (with_reduction no_reductions 0 (λ next given. reduced no_reductions next given (sentence-Atom first_in_second i)))
    1 [] (sentence-Atom root_at_set i)
