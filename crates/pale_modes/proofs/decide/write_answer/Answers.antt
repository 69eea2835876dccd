use Rattle.std.proofs.Common.{List, ℕ, subst, sym}
use Rattle.pale_status.specs.declared.status.Status.{Status}
use Rattle.pale_modes.specs.Deciding.{Says, status_of}
use Rattle.pale_status.proofs.WrittenLemmas.{said_whole, said_begun}
use Rattle.pale_modes.proofs.decide.write_answer.Goals as goal

pub returns-clause-ok : goal.returns-clause-ok
returns-clause-ok g c =
    let limit = c.args.limit in
    let text = c.args.text.now in
    let allowed : Says limit text c.as_slice.result.now c.status_of.result =
    subst (λ (s : Status). Says limit text c.as_slice.result.now s) (sym c.status_of.ensures)
    (subst (λ (line : List ℕ). Says limit text line (status_of c.args.answer.now)) (sym c.as_slice.ensures.value) c.in_ok-report.ensures) in
    said_whole (Says c.args.limit c.args.text.now) (g.K.Sink.written c.args.sink.now) (g.K.Sink.written c.say.new.sink)
    c.as_slice.result.now c.status_of.result allowed
    c.say.result c.say.ensures.ok

pub returns-clause-err : goal.returns-clause-err
returns-clause-err g c =
    let limit = c.args.limit in
    let text = c.args.text.now in
    let allowed : Says limit text c.as_slice.result.now c.status_of.result =
    subst (λ (s : Status). Says limit text c.as_slice.result.now s) (sym c.status_of.ensures)
    (subst (λ (line : List ℕ). Says limit text line (status_of c.args.answer.now)) (sym c.as_slice.ensures.value) c.in_ok-report.ensures) in
    said_begun (Says c.args.limit c.args.text.now) (g.K.Sink.written c.args.sink.now) (g.K.Sink.written c.say.new.sink)
    c.as_slice.result.now c.status_of.result allowed
    c.say.result c.say.ensures.err
