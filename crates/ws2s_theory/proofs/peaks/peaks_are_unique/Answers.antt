use Rattle.ws2s_theory.proofs.PeaksLemmas.{HasPeak-unique}
use Rattle.ws2s_theory.proofs.peaks.peaks_are_unique.Goals as goal

pub returns : goal.returns
returns c = λ g f n m guide. HasPeak-unique g guide f n m
