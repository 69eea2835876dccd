use Rattle.ws2s_theory.proofs.WorkedRootsLemmas.{HasMinimalSize-three, HasPeak-four, HasPeak-not_four}
use Rattle.ws2s_theory.proofs.worked.peak_of_four_roots_within.Goals as goal

pub returns : goal.returns
returns c = record { three = HasMinimalSize-three; four = HasPeak-four; negated = HasPeak-not_four }
