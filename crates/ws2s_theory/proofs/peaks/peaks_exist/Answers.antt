use Rattle.ws2s_theory.proofs.PeaksLemmas.{HasPeak-exists}
use Rattle.ws2s_theory.proofs.peaks.peaks_exist.Goals as goal

pub returns : goal.returns
returns c = λ g f guide. HasPeak-exists g guide f
