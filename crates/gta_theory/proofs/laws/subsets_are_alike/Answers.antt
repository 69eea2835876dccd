use Rattle.std.proofs.Common.{IsTrue}
use Rattle.gta_theory.specs.Automata.{Has}
use Rattle.gta_theory.proofs.AlikeLemmas.{AreAlike-subsets}
use Rattle.gta_theory.proofs.laws.subsets_are_alike.Goals as goal

pub returns : goal.returns
returns c = λ g A C D t states_C states_D member_C member_D guide of_A of_C of_D.
    AreAlike-subsets g guide A of_A t C (Has states_C) (λ s x q. IsTrue (member_C s x q)) of_C
    D (Has states_D) (λ s x q. IsTrue (member_D s x q)) of_D
