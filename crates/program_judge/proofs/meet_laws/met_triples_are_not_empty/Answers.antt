use Rattle.program_judge.proofs.AskingLemmas.{unmet-itself}
use Rattle.program_judge.proofs.meet_laws.met_triples_are_not_empty.Goals as goal

pub returns-clause-apart : goal.returns-clause-apart
returns-clause-apart c types vars t s least none = none s least.meets

pub returns-clause-valid : goal.returns-clause-valid
returns-clause-valid c = unmet-itself
