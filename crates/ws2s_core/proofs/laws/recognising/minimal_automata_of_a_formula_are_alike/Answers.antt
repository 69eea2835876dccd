use Rattle.std.proofs.lemmas.Bool.{cases_eq}
use Rattle.gta_theory.specs.Automata.{Has}
use Rattle.gta_theory.proofs.MinimalLemmas.{AreAlike-minimal}
use Rattle.ws2s_core.proofs.laws.recognising.minimal_automata_of_a_formula_are_alike.Goals as goal

pub returns : goal.returns
returns c = λ g A B f states_A states_B guide of_A of_B.
    AreAlike-minimal cases_eq cases_eq g guide A (Has states_A) of_A.minimal B (Has states_B) of_B.minimal (λ n a covers.
    let in_A = (of_A.recognises).exactly n a covers in
    let in_B = (of_B.recognises).exactly n a covers in
    ((λ h. in_B.1 (in_A.0 h)), (λ h. in_A.1 (in_B.0 h))))
