use Rattle.gta_theory.specs.Automata.{Has}
use Rattle.gta_theory.proofs.GeneratedLemmas.{IsReached-generated}
use Rattle.gta_theory.proofs.generated.generated_states_are_reached.Goals as goal

pub returns : goal.returns
returns c = λ g A states guide stable. IsReached-generated g guide A stable (Has states)
