use Rattle.std.proofs.Common.{subst}
use Rattle.ws2s_decide.specs.Deciding.{IsVerdict}
use Rattle.ws2s_decide.proofs.WaysLemmas.{IsVerdict-same}
use Rattle.field_judge.proofs.KnownLemmas.{follows-same}
use Rattle.field_judge.proofs.verdicts.verdict_on.Goals as goal

pub verdict_by_passes-requires-clause-follows : goal.verdict_by_passes-requires-clause-follows
verdict_by_passes-requires-clause-follows g c = follows-same c.args.formula.now c.args.easier c.args.known.now c.requires.follows c.requires.same

-- a verdict on the easier formula is one on the formula
pub returns-in-Ok-None-clause-value : goal.returns-in-Ok-None-clause-value
returns-in-Ok-None-clause-value g c =
    subst (IsVerdict c.args.tracks.now c.args.formula.now) c.in-Ok-None.field-0-is
    (IsVerdict-same c.args.tracks.now c.args.formula.now c.args.easier c.in-Ok-None.field-0 c.requires.same c.in-Ok-None.ensures.value)

pub returns-in-Ok-Witness-clause-value : goal.returns-in-Ok-Witness-clause-value
returns-in-Ok-Witness-clause-value g c =
    subst (IsVerdict c.args.tracks.now c.args.formula.now) c.in-Ok-Witness.field-0-is
    (IsVerdict-same c.args.tracks.now c.args.formula.now c.args.easier c.in-Ok-Witness.field-0 c.requires.same c.in-Ok-Witness.ensures.value)

pub returns-in-Ok-TooLarge-clause-value : goal.returns-in-Ok-TooLarge-clause-value
returns-in-Ok-TooLarge-clause-value g c =
    subst (IsVerdict c.args.tracks.now c.args.formula.now) c.in-Ok-TooLarge.field-0-is
    (IsVerdict-same c.args.tracks.now c.args.formula.now c.args.easier c.in-Ok-TooLarge.field-0 c.requires.same c.in-Ok-TooLarge.ensures.value)
