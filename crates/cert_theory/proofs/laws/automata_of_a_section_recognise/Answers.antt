use Rattle.cert_theory.proofs.SectionsLemmas.{recognise-found}
use Rattle.cert_theory.proofs.laws.automata_of_a_section_recognise.Goals as goal

pub returns : goal.returns
returns c = λ g nodes stages guide are k f found. recognise-found g guide nodes stages are k f found
