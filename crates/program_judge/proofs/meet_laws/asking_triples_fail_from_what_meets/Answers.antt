use Rattle.program_judge.proofs.AskingLemmas.{meets-asking, asking-meets, unmet-valid, valid-unmet}
use Rattle.program_judge.proofs.meet_laws.asking_triples_fail_from_what_meets.Goals as goal

pub returns-clause-same : goal.returns-clause-same
returns-clause-same c = meets-asking

pub returns-clause-back : goal.returns-clause-back
returns-clause-back c = asking-meets

pub returns-clause-valid : goal.returns-clause-valid
returns-clause-valid c = unmet-valid

pub returns-clause-unmet : goal.returns-clause-unmet
returns-clause-unmet c = valid-unmet
