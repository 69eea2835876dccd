use Rattle.gta_theory.specs.Automata.{Has}
use Rattle.gta_theory.proofs.AlikeLemmas.{AreAlike-products}
use Rattle.gta_theory.proofs.laws.products_are_alike.Goals as goal

pub returns : goal.returns
returns c = λ g A B C D states_C states_D pair_C pair_D guide of_A of_B of_C of_D.
    AreAlike-products g guide A B of_A of_B C (Has states_C) pair_C of_C D (Has states_D) pair_D of_D
