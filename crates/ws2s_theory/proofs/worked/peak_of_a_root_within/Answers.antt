use Rattle.ws2s_theory.proofs.WorkedPeakLemmas.{HasPeak-within, HasPeak-has_root, HasPeak-not_has_root}
use Rattle.ws2s_theory.proofs.worked.peak_of_a_root_within.Goals as goal

pub returns : goal.returns
returns c = record { conjunction = HasPeak-within; quantified = HasPeak-has_root; negated = HasPeak-not_has_root }
