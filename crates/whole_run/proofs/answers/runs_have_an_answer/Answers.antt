use Rattle.whole_run.proofs.AnswerLaws.{Laws}
use Rattle.whole_run.proofs.Answering.{some_answer}
use Rattle.whole_run.proofs.answers.runs_have_an_answer.Goals as goal

pub returns : goal.returns
returns c = λ program fits number entry s n there fit fresh.
    let law : Laws = record {
      puts = c.claims_with_actuals_put_in_fit.ensures;
      handed = c.handed_stores_meet_the_entry.ensures;
      formed = c.returned_stores_are_well_formed.ensures;
    } in
    some_answer law program fits number entry s n there fit fresh
