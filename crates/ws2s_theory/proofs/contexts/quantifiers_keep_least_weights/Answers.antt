use Rattle.ws2s_theory.proofs.ContextsLemmas.{IsLightestOf-quantified}
use Rattle.ws2s_theory.proofs.contexts.quantifiers_keep_least_weights.Goals as goal

pub returns : goal.returns
returns c = λ tracks t f w unweighed. IsLightestOf-quantified tracks t f unweighed w
