use Rattle.ws2s_theory.proofs.ContextsLemmas.{WSat-quantified}
use Rattle.ws2s_theory.proofs.contexts.satisfied_formulas_are_quantified.Goals as goal

pub returns : goal.returns
returns c = WSat-quantified
