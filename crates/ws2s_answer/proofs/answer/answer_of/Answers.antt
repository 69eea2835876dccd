use Rattle.gta_keep.proofs.HoldingLemmas.{opened_has_no_tables}
use Rattle.ws2s_answer.proofs.answer.answer_of.Goals as goal

pub answer_by-answer-requires-clause-kept : goal.answer_by-answer-requires-clause-kept
answer_by-answer-requires-clause-kept c =
    c.in_ok-decider.ensures.kept c.in_ok-shelf.shelf
    (opened_has_no_tables c.args.limit c.in_ok-shelf.shelf c.in_ok-shelf.ensures.shelf c.in_ok-shelf.ensures.empty)
