use Rattle.cert_theory.proofs.AgreeingLemmas.{sets-agreeing}
use Rattle.cert_theory.proofs.agreeing.sets_lead_alike_for_automata_that_agree.Goals as goal

pub returns : goal.returns
returns c = λ g A C A' C' t table of_A of_C is. sets-agreeing g A C A' C' t table of_A of_C is
