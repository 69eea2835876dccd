use Rattle.program_promises.proofs.SafetyLemmas.{runs-safe}
use Rattle.program_promises.proofs.promises.good_reports_have_safe_runs.Goals as goal

pub returns : goal.returns
returns c limit text program triples output read reports =
    runs-safe c.programs_of_texts_never_fail.ensures text program triples read
    (c.good_reports_have_valid_triples.ensures limit program triples output reports)
