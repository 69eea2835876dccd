use Rattle.cert_theory.proofs.SectionsLemmas.{no-satisfying}
use Rattle.cert_theory.proofs.laws.a_section_leaves_no_satisfying_assignment.Goals as goal

pub returns : goal.returns
returns c = λ g f nodes stages guide section a finite sat. no-satisfying g f nodes stages guide section a finite sat
