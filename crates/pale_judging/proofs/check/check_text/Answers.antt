use Rattle.std.proofs.Common.{subst, sym}
use Rattle.whole_program.specs.ProgramTexts.{IsStopOf}
use Rattle.program_judge.specs.Reports.{ReportsProgram}
use Rattle.pale_status.specs.declared.status.Status.{Status}
use Rattle.pale_judging.specs.Checking.{Checks, refused, judged, status_of}
use Rattle.pale_status.specs.Written.{Wrote}
use Rattle.pale_status.proofs.WrittenLemmas.{on_err, refused_begun, refused_whole, Wrote-turned, WroteAtMost-turned}
use Rattle.pale_judging.proofs.check.check_text.Goals as goal

pub returns-in_err-how-in-Ok-clause-err : goal.returns-in_err-how-in-Ok-clause-err
returns-in_err-how-in-Ok-clause-err g c =
    let limit = c.args.limit in
    let text = c.args.text.now in
    let before = g.K.Sink.written c.args.sink.now in
    let program = c.in-Ok.whole.typed in
    let triples = c.in-Ok.whole.triples in
    let after = g.K.Sink.written c.check_program.new.sink in
    on_err c.from_residual.result
    (WroteAtMost-turned (ReportsProgram limit program triples) (Checks limit text) status_of
    (λ output how reports. judged program triples output how c.requires.within c.in-Ok.ensures.program reports) before after
    c.in_err-how-in-Ok.ensures.err)

pub returns-in_ok-how-in-Ok-clause-ok : goal.returns-in_ok-how-in-Ok-clause-ok
returns-in_ok-how-in-Ok-clause-ok g c =
    let limit = c.args.limit in
    let text = c.args.text.now in
    let before = g.K.Sink.written c.args.sink.now in
    let program = c.in-Ok.whole.typed in
    let triples = c.in-Ok.whole.triples in
    let after = g.K.Sink.written c.check_program.new.sink in
    subst (λ (s : Status). Wrote (Checks limit text) before after s) (sym c.status_of.ensures)
    (Wrote-turned (ReportsProgram limit program triples) (Checks limit text) status_of
    (λ output how reports. judged program triples output how c.requires.within c.in-Ok.ensures.program reports) before after
    c.in_ok-how-in-Ok.how c.in_ok-how-in-Ok.ensures.ok)

pub returns-in-Err-clause-ok : goal.returns-in-Err-clause-ok
returns-in-Err-clause-ok g c =
    refused_whole c.in-Err.stop (Checks c.args.limit c.args.text.now)
    (λ refusal is. refused refusal c.requires.within (subst (IsStopOf c.args.text.now) is c.in-Err.ensures.stop))
    (g.K.Sink.written c.args.sink.now) (g.K.Sink.written c.refuse.new.sink) c.refuse.result c.refuse.ensures.ok

pub returns-in-Err-clause-err : goal.returns-in-Err-clause-err
returns-in-Err-clause-err g c =
    refused_begun c.in-Err.stop (Checks c.args.limit c.args.text.now)
    (λ refusal is. refused refusal c.requires.within (subst (IsStopOf c.args.text.now) is c.in-Err.ensures.stop))
    (g.K.Sink.written c.args.sink.now) (g.K.Sink.written c.refuse.new.sink) c.refuse.result c.refuse.ensures.err
