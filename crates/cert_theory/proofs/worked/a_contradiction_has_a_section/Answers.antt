use Rattle.cert_theory.proofs.WorkedLemmas.{worked-section}
use Rattle.cert_theory.proofs.worked.a_contradiction_has_a_section.Goals as goal

pub returns : goal.returns
returns c = worked-section
