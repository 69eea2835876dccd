use Rattle.ws2s_pass.proofs.PartsLemmas.{flattened-part}
use Rattle.ws2s_pass.proofs.laws.flattened_formulas_negate_no_negation.Goals as goal

pub returns : goal.returns
returns c = flattened-part
