use Rattle.std.proofs.Common.{length, subst}
use Rattle.ws2s_core.specs.LabelTrees.{assignment_of}
use Rattle.ws2s_core.proofs.LabelTreesLemmas.{Covers-tree}
use Rattle.ws2s_decide.specs.Deciding.{IsVerdict}
use Rattle.ws2s_answer.proofs.AnsweringLemmas.{valid, not_valid}
use Rattle.ws2s_answer.proofs.answer.unless_valid.Goals as goal

pub returns-in-None-clause-value : goal.returns-in-None-clause-value
returns-in-None-clause-value c =
    valid c.args.text.now c.args.breaks.now c.requires.means (subst (IsVerdict _ c.args.breaks.now) c.in-None.is c.in_ok-decide.ensures.value)

pub returns-in-Witness-clause-value : goal.returns-in-Witness-clause-value
returns-in-Witness-clause-value c =
    let model = subst (IsVerdict _ c.args.breaks.now) c.in-Witness.is c.in_ok-decide.ensures.value in
    c.requires.otherwise (not_valid c.args.text.now c.args.breaks.now (length c.in-Witness.field-0) (assignment_of c.in-Witness.field-0) c.requires.means
    (Covers-tree c.in-Witness.field-0) model.satisfies)

pub returns-in-TooLarge-clause-value : goal.returns-in-TooLarge-clause-value
returns-in-TooLarge-clause-value c =
    let large = subst (IsVerdict _ c.args.breaks.now) c.in-TooLarge.is c.in_ok-decide.ensures.value in
    c.requires.otherwise (not_valid c.args.text.now c.args.breaks.now large.some.0 large.some.1 c.requires.means large.some.2 large.some.3)
