use Rattle.std.proofs.Common.{IsTrue}
use Rattle.gta_theory.specs.Automata.{Has}
use Rattle.gta_theory.proofs.AlikeMoreLemmas.{AreAlike-subsets_alike}
use Rattle.gta_theory.proofs.alike.subsets_of_alike_are_alike.Goals as goal

pub returns : goal.returns
returns c = λ g A D C F t states_A states_D states_C states_F member other_member guide of_A of_D alike of_C of_F.
    AreAlike-subsets_alike g guide A (Has states_A) of_A D (Has states_D) of_D alike t
    C (Has states_C) (λ s x q. IsTrue (member s x q)) of_C F (Has states_F) (λ s x q. IsTrue (other_member s x q)) of_F
