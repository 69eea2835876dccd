use Rattle.program_judge.proofs.MeetTellingLemmas.{meet-told, meets-rest}
use Rattle.program_judge.proofs.meet_laws.starts_can_be_told.Goals as goal

pub returns-clause-each : goal.returns-clause-each
returns-clause-each c limit program k t fits every own = meet-told limit program fits every k t own

pub returns-clause-all : goal.returns-clause-all
returns-clause-all c limit program triples done rest lines ways fits every own split reports =
    meets-rest limit program fits every triples done rest lines ways own split reports
