use Rattle.ws2s_decide.proofs.WaysLemmas.{IsVerdict-same}
use Rattle.field_judge.proofs.KnownLemmas.{same-joined}
use Rattle.field_judge.proofs.verdicts.verdict_by_passes.Goals as goal

pub returns-clause-value : goal.returns-clause-value
returns-clause-value g c =
    IsVerdict-same c.args.tracks.now c.args.formula c.in_ok-easier.easier c.in_ok-verdict.verdict
    (same-joined c.args.formula c.args.known.now c.in_ok-joined.joined c.in_ok-easier.easier c.requires.follows c.in_ok-joined.ensures
    c.in_ok-easier.ensures.kept.same)
    c.in_ok-verdict.ensures.value
