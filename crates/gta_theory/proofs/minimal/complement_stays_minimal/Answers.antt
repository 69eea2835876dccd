use Rattle.gta_theory.specs.Automata.{Has}
use Rattle.gta_theory.proofs.AlikeLemmas.{IsMinimal-complement}
use Rattle.gta_theory.proofs.minimal.complement_stays_minimal.Goals as goal

pub returns : goal.returns
returns c = λ g A states guide. IsMinimal-complement g guide A (Has states)
