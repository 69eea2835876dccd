use Rattle.cert_theory.proofs.WorkedSetsLemmas.{quantified-section}
use Rattle.cert_theory.proofs.worked.a_quantified_formula_has_a_section.Goals as goal

pub returns : goal.returns
returns c = quantified-section
