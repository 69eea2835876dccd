use Rattle.ws2s_answer.proofs.WithinLemmas.{no_limit}
use Rattle.ws2s_answer.proofs.laws.limits_are_no_answers_within_the_peak.Goals as goal

pub returns : goal.returns
returns c = no_limit c.peaks_exist.ensures
