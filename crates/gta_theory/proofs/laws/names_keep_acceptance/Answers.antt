use Rattle.gta_theory.specs.Automata.{Has}
use Rattle.gta_theory.proofs.AutomataLemmas.{Accepts-named}
use Rattle.gta_theory.proofs.laws.names_keep_acceptance.Goals as goal

pub returns : goal.returns
returns c = λ g A B states name guide. Accepts-named g guide A (Has states) B name
