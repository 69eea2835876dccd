use Rattle.gta_theory.specs.Automata.{Has}
use Rattle.gta_theory.proofs.AlikeMoreLemmas.{AreAlike-trans}
use Rattle.gta_theory.proofs.alike.alike_goes_on.Goals as goal

pub returns : goal.returns
returns c = λ g A B C states_A states_B states_C. AreAlike-trans g A (Has states_A) B (Has states_B) C (Has states_C)
