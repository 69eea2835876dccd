use Rattle.program_judge.proofs.MeetTellingLemmas.{starts-decided}
use Rattle.program_judge.proofs.meet_laws.starts_are_told_within_their_peaks.Goals as goal

pub returns : goal.returns
returns c limit program triples lines ways reports = starts-decided c.triples_have_one_peak.ensures.exists limit program 1 triples lines ways reports
