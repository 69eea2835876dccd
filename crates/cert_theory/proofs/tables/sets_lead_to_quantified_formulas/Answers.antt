use Rattle.cert_theory.proofs.SetsLemmas.{Recognises-sets}
use Rattle.cert_theory.proofs.tables.sets_lead_to_quantified_formulas.Goals as goal

pub returns : goal.returns
returns c = λ g A C t f table guide of_A is. Recognises-sets g guide A C t f table of_A is
