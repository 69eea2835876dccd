use Rattle.std.proofs.Common.{[], ap}
use Rattle.ws2s_core.specs.declared.formula.Formula.TheVariants.{Not}
use Rattle.ws2s_syntax.proofs.SentencesLemmas.{sentence-Atom}
use Rattle.ws2s_reduce.specs.Reducing.{reduced, no_reductions}
use Rattle.ws2s_reduce.specs.Examples.{root_in}
use Rattle.ws2s_reduce.proofs.examples.root_in_a_set_is_reduced.Goals as goal

pub returns : goal.returns
returns c = record {
  holds = ap (reduced no_reductions 1 []) (sentence-Atom (root_in 0));
  breaks = ap (λ s. Not (reduced no_reductions 1 [] s)) (sentence-Atom (root_in 0));
}
