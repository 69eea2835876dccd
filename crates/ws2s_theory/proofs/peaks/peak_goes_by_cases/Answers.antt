use Rattle.ws2s_theory.proofs.PeaksLemmas.{HasPeak-Sub, HasPeak-Single, HasPeak-Succ0, HasPeak-Succ1, HasPeak-Root}
use Rattle.ws2s_theory.proofs.PeaksLemmas.{HasPeak-And, HasPeak-Not, HasPeak-Ex2}
use Rattle.ws2s_theory.proofs.peaks.peak_goes_by_cases.Goals as goal

pub returns : goal.returns
returns c = record {
  sub = HasPeak-Sub;
  single = HasPeak-Single;
  succ0 = HasPeak-Succ0;
  succ1 = HasPeak-Succ1;
  root = HasPeak-Root;
  conjunction = HasPeak-And;
  negation = HasPeak-Not;
  quantifier = HasPeak-Ex2;
}
