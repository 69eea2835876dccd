use Rattle.gta_theory.specs.Automata.{Has}
use Rattle.gta_theory.proofs.AlikeMoreLemmas.{AreAlike-complements}
use Rattle.gta_theory.proofs.alike.complements_of_alike_are_alike.Goals as goal

pub returns : goal.returns
returns c = λ g A B states_A states_B guide of_A of_B. AreAlike-complements g guide A (Has states_A) of_A B (Has states_B) of_B
