use Rattle.cert_theory.proofs.AgreeingLemmas.{pairs-agreeing}
use Rattle.cert_theory.proofs.agreeing.pairs_lead_alike_for_automata_that_agree.Goals as goal

pub returns : goal.returns
returns c = λ g A B C A' B' C' table of_A of_B of_C is. pairs-agreeing g A B C A' B' C' table of_A of_B of_C is
