use Rattle.gta_theory.specs.Automata.{Has}
use Rattle.gta_theory.proofs.GeneratedLemmas.{IsStable-closed, IsReached-closed}
use Rattle.gta_theory.proofs.generated.closed_names_are_stable.Goals as goal

pub returns : goal.returns
returns c = record {
  stable = λ g A B states name guide. IsStable-closed g guide A (Has states) B name;
  reached = λ g A B states name guide. IsReached-closed g guide A (Has states) B name;
}
