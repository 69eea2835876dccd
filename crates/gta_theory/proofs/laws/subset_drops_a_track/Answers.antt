use Rattle.std.proofs.Common.{IsTrue}
use Rattle.gta_theory.specs.Automata.{Has}
use Rattle.gta_theory.proofs.SubsetLemmas.{Accepts-subset}
use Rattle.gta_theory.proofs.laws.subset_drops_a_track.Goals as goal

pub returns : goal.returns
returns c = λ g A B t states member guide stable.
    Accepts-subset g guide A stable t B (Has states) (λ s x q. IsTrue (member s x q))
