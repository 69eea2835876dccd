use Rattle.gta_theory.specs.Automata.{Has}
use Rattle.gta_theory.proofs.AlikeMoreLemmas.{AreAlike-refl}
use Rattle.gta_theory.proofs.alike.reached_states_are_alike_to_themselves.Goals as goal

pub returns : goal.returns
returns c = λ g A states guide. AreAlike-refl g guide A (Has states)
