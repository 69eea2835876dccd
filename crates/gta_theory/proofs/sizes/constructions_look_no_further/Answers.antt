use Rattle.std.proofs.Common.{IsTrue}
use Rattle.gta_theory.specs.Automata.{Has}
use Rattle.gta_theory.proofs.LooksLemmas.{LooksBelow-product, LooksBelow-subset, LooksBelow-classes}
use Rattle.gta_theory.proofs.sizes.constructions_look_no_further.Goals as goal

pub returns : goal.returns
returns c = record {
  product = λ g A B C states_A states_B states_C pair k guide of_A reached_A of_B reached_B of_C.
      LooksBelow-product g guide A (Has states_A) of_A reached_A B (Has states_B) of_B reached_B C (Has states_C) pair of_C k;
  subset = λ g A B t states_A states_B member k guide of_A reached_A of_B.
      LooksBelow-subset g guide A (Has states_A) of_A reached_A t B (Has states_B) (λ s x q. IsTrue (member s x q)) of_B k;
  classes = λ g A M states classes class_of k guide. LooksBelow-classes g guide A (Has states) M (Has classes) class_of k;
}
