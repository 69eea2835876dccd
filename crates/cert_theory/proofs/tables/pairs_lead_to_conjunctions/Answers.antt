use Rattle.cert_theory.proofs.PairsLemmas.{Recognises-pairs}
use Rattle.cert_theory.proofs.tables.pairs_lead_to_conjunctions.Goals as goal

pub returns : goal.returns
returns c = λ g A B C f h table guide of_A of_B is. Recognises-pairs g guide A B C table is f h of_A of_B
