use Rattle.std.proofs.Common.{◌∙◌, ℕ, List, length, subst, sym}
use Rattle.std.specs.Prelude.{IfSome}
use Rattle.store_text.specs.Lines.{lines_of}
use Rattle.pale_parts.specs.Requests.{IsRequest, IsRequestFault}
use Rattle.pale_status.specs.declared.status.Status.TheVariants.{Text}
use Rattle.pale_status.proofs.WrittenLemmas.{begun-weaker, whole-weaker, said_begun, said_whole}
use Rattle.pale_judging.specs.Judging.{JudgesRequest, JudgesPart}
use Rattle.pale_judging.proofs.JudgingLemmas.{lines_in, part_asked, part_refused, asked_part}
use Rattle.pale_judging.proofs.judge.judge_part.Goals as goal

pub judge_request-requires-clause-request : goal.judge_request-requires-clause-request
judge_request-requires-clause-request g c =
    let triples = c.args.whole.now.triples in
    let ok = subst (λ (n : ℕ). IfSome c.args.part (λ after. IsRequest n (lines_of after.now) c.in-Ok.request)) c.len.ensures c.in-Ok.ensures.ok in
    let (lines, is, asks) = part_asked (length triples) c.args.part c.in-Ok.request _ c.in-Ok.ensures.none ok in
    (lines, asks)

pub returns-in-Ok-clause-ok : goal.returns-in-Ok-clause-ok
returns-in-Ok-clause-ok g c =
    let limit = c.args.limit in
    let program = c.args.whole.now.typed in
    let triples = c.args.whole.now.triples in
    let ok = subst (λ (n : ℕ). IfSome c.args.part (λ after. IsRequest n (lines_of after.now) c.in-Ok.request)) c.len.ensures c.in-Ok.ensures.ok in
    let (lines, is, asks) = part_asked (length triples) c.args.part c.in-Ok.request _ c.in-Ok.ensures.none ok in
    whole-weaker (JudgesRequest limit program triples c.in-Ok.request) (JudgesPart limit program triples (lines_in c.args.part))
    (asked_part limit program triples c.args.part lines c.in-Ok.request is asks)
    (g.K.Sink.written c.args.sink.now) (g.K.Sink.written c.judge_request.new.sink) c.judge_request.result c.judge_request.ensures.ok

pub returns-in-Ok-clause-err : goal.returns-in-Ok-clause-err
returns-in-Ok-clause-err g c =
    let limit = c.args.limit in
    let program = c.args.whole.now.typed in
    let triples = c.args.whole.now.triples in
    let ok = subst (λ (n : ℕ). IfSome c.args.part (λ after. IsRequest n (lines_of after.now) c.in-Ok.request)) c.len.ensures c.in-Ok.ensures.ok in
    let (lines, is, asks) = part_asked (length triples) c.args.part c.in-Ok.request _ c.in-Ok.ensures.none ok in
    begun-weaker (JudgesRequest limit program triples c.in-Ok.request) (JudgesPart limit program triples (lines_in c.args.part))
    (asked_part limit program triples c.args.part lines c.in-Ok.request is asks)
    (g.K.Sink.written c.args.sink.now) (g.K.Sink.written c.judge_request.new.sink) c.judge_request.result c.judge_request.ensures.err

pub returns-in_ok-line-in-Err-clause-ok : goal.returns-in_ok-line-in-Err-clause-ok
returns-in_ok-line-in-Err-clause-ok g c =
    let limit = c.args.limit in
    let program = c.args.whole.now.typed in
    let triples = c.args.whole.now.triples in
    let err = subst (λ (n : ℕ). IfSome c.args.part (λ after. IsRequestFault n (lines_of after.now) c.in-Err.fault)) c.len.ensures c.in-Err.ensures.err in
    let allowed = part_refused limit program triples c.args.part c.in-Err.fault c.in-Err.ensures.none err in
    let spelled = c.as_slice.ensures.value ∙ c.in_ok-line-in-Err.ensures in
    said_whole (JudgesPart limit program triples (lines_in c.args.part)) (g.K.Sink.written c.args.sink.now) (g.K.Sink.written c.say.new.sink)
    c.as_slice.result.now Text (subst (λ (l : List ℕ). JudgesPart limit program triples (lines_in c.args.part) l Text) (sym spelled) allowed)
    c.say.result c.say.ensures.ok

pub returns-in_ok-line-in-Err-clause-err : goal.returns-in_ok-line-in-Err-clause-err
returns-in_ok-line-in-Err-clause-err g c =
    let limit = c.args.limit in
    let program = c.args.whole.now.typed in
    let triples = c.args.whole.now.triples in
    let err = subst (λ (n : ℕ). IfSome c.args.part (λ after. IsRequestFault n (lines_of after.now) c.in-Err.fault)) c.len.ensures c.in-Err.ensures.err in
    let allowed = part_refused limit program triples c.args.part c.in-Err.fault c.in-Err.ensures.none err in
    let spelled = c.as_slice.ensures.value ∙ c.in_ok-line-in-Err.ensures in
    said_begun (JudgesPart limit program triples (lines_in c.args.part)) (g.K.Sink.written c.args.sink.now) (g.K.Sink.written c.say.new.sink)
    c.as_slice.result.now Text (subst (λ (l : List ℕ). JudgesPart limit program triples (lines_in c.args.part) l Text) (sym spelled) allowed)
    c.say.result c.say.ensures.err
