use Rattle.gta_theory.specs.Automata.{Has}
use Rattle.gta_theory.proofs.AlikeMoreLemmas.{AreAlike-products_alike}
use Rattle.gta_theory.proofs.alike.products_of_alike_are_alike.Goals as goal

pub returns : goal.returns
returns c = λ g A D B E C F states_A states_D states_B states_E states_C states_F pair other_pair guide of_A of_D of_B of_E
    alike_A alike_B of_C of_F.
    AreAlike-products_alike g guide A (Has states_A) of_A D (Has states_D) of_D alike_A B (Has states_B) of_B E (Has states_E) of_E
    alike_B C (Has states_C) pair of_C F (Has states_F) other_pair of_F
