use Rattle.triple_judge.proofs.PeakLemmas.{has-peak, one-peak}
use Rattle.triple_judge.proofs.laws.triples_have_one_peak.Goals as goal

pub returns : goal.returns
returns c = record { exists = has-peak; one = one-peak }
