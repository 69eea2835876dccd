use Rattle.std.proofs.lemmas.Bool.{cases_eq}
use Rattle.gta_theory.specs.Automata.{Has}
use Rattle.gta_theory.proofs.MinimalLemmas.{AreAlike-minimal}
use Rattle.gta_theory.proofs.minimal.minimal_automata_are_alike.Goals as goal

pub returns : goal.returns
returns c = λ g A B states_A states_B guide of_A of_B.
    AreAlike-minimal cases_eq cases_eq g guide A (Has states_A) of_A B (Has states_B) of_B
