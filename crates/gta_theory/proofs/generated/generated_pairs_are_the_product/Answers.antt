use Rattle.gta_theory.specs.Automata.{Has}
use Rattle.gta_theory.specs.Constructions.{pairs}
use Rattle.gta_theory.proofs.AutomataLemmas.{IsStable-pairs}
use Rattle.gta_theory.proofs.GeneratedLemmas.{IsStable-closed, IsProduct-generated}
use Rattle.gta_theory.proofs.generated.generated_pairs_are_the_product.Goals as goal

pub returns : goal.returns
returns c = record {
  stable = λ g A B C states pair guide of_A of_B closed naming once.
      IsStable-closed g guide C (Has states) (pairs A B) pair closed naming once (IsStable-pairs g A B of_A of_B);
  product = λ g A B C states pair guide of_A of_B. IsProduct-generated g guide A B of_A of_B C (Has states) pair;
}
