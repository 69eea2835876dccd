use Rattle.std.proofs.Common.{[]}
use Rattle.ws2s_theory.proofs.ContextsLemmas.{SameUnder-rewritten, SameUnder-Same}
use Rattle.ws2s_theory.proofs.contexts.rewritings_are_the_same.Goals as goal

pub returns : goal.returns
returns c = record {
  under = SameUnder-rewritten;
  same = λ f h rewriting. SameUnder-Same f h (SameUnder-rewritten [] f h rewriting);
}
