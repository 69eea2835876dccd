use Rattle.gta_theory.specs.Automata.{Has}
use Rattle.gta_theory.proofs.AlikeMoreLemmas.{AreAlike-sym}
use Rattle.gta_theory.proofs.alike.alike_goes_both_ways.Goals as goal

pub returns : goal.returns
returns c = λ g A B states_A states_B. AreAlike-sym g A (Has states_A) B (Has states_B)
