use Rattle.std.proofs.Common.{IsTrue}
use Rattle.gta_theory.specs.Automata.{Has}
use Rattle.gta_theory.proofs.GeneratedLemmas.{IsStable-closed_sets, IsSubset-generated}
use Rattle.gta_theory.proofs.generated.generated_sets_are_the_subset_automaton.Goals as goal

pub returns : goal.returns
returns c = record {
  stable = λ g A B t states member guide stable.
      IsStable-closed_sets g guide A stable t B (Has states) (λ s x q. IsTrue (member s x q));
  subset = λ g A B t states member guide stable closed generated naming.
      IsSubset-generated g guide A stable t B (Has states) (λ s x q. IsTrue (member s x q)) closed naming generated;
}
