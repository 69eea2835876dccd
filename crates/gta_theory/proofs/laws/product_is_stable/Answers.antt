use Rattle.gta_theory.specs.Automata.{Has}
use Rattle.gta_theory.proofs.AutomataLemmas.{IsStable-product}
use Rattle.gta_theory.proofs.laws.product_is_stable.Goals as goal

pub returns : goal.returns
returns c = λ g A B C states pair guide of_A of_B. IsStable-product g guide A B of_A of_B C (Has states) pair
