use Rattle.program_promises.proofs.TellingLemmas.{whole_fields, whole_triples, triple_decided, program_told}
use Rattle.program_promises.proofs.promises.reports_tell_each_within_its_peak.Goals as goal

pub returns-clause-fields : goal.returns-clause-fields
returns-clause-fields c = whole_fields (record { peaks = c.peaks_exist.ensures; greatest = c.triples_have_one_peak.ensures.exists })

pub returns-clause-triples : goal.returns-clause-triples
returns-clause-triples c = whole_triples (record { peaks = c.peaks_exist.ensures; greatest = c.triples_have_one_peak.ensures.exists })

pub returns-clause-program : goal.returns-clause-program
returns-clause-program c = program_told (record { peaks = c.peaks_exist.ensures; greatest = c.triples_have_one_peak.ensures.exists })

pub returns-clause-triple : goal.returns-clause-triple
returns-clause-triple c = triple_decided (record { peaks = c.peaks_exist.ensures; greatest = c.triples_have_one_peak.ensures.exists })
