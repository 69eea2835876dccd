use Rattle.program_promises.proofs.CompletenessLemmas.{verdicts}
use Rattle.program_promises.proofs.promises.reports_within_the_peaks_are_verdicts.Goals as goal

pub returns : goal.returns
returns c =
    verdicts (record {
      apart = c.ambiguous_fields_are_not_functional.ensures.so;
      peaks = c.peaks_exist.ensures;
      greatest = c.triples_have_one_peak.ensures.exists;
    })
