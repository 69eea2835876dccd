use Rattle.ws2s_theory.proofs.ContextsLemmas.{satisfiable-quantified}
use Rattle.ws2s_theory.proofs.contexts.quantifiers_keep_satisfiability.Goals as goal

pub returns : goal.returns
returns c = satisfiable-quantified
