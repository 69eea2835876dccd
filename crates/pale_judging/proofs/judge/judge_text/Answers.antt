use Rattle.std.proofs.Common.{subst}
use Rattle.pale_starts.specs.Stops.{IsPartStop}
use Rattle.pale_status.proofs.WrittenLemmas.{begun-weaker, whole-weaker, refused_begun, refused_whole}
use Rattle.pale_judging.specs.Judging.{Judges, JudgesPart, refused}
use Rattle.pale_judging.proofs.JudgingLemmas.{lines_in, by_cut, stop_by_cut}
use Rattle.pale_judging.proofs.judge.judge_text.Goals as goal

pub returns-in-Ok-clause-ok : goal.returns-in-Ok-clause-ok
returns-in-Ok-clause-ok g c =
    let limit = c.args.limit in
    let text = c.args.text.now in
    let front = c.cut_text.result.0.now in
    let part = c.cut_text.result.1 in
    let program = c.in-Ok.whole.typed in
    let triples = c.in-Ok.whole.triples in
    whole-weaker (JudgesPart limit program triples (lines_in part)) (Judges limit text)
    (by_cut text front limit part c.cut_text.ensures.cut c.cut_text.ensures.whole c.requires.within program triples c.in-Ok.ensures.program)
    (g.K.Sink.written c.args.sink.now) (g.K.Sink.written c.judge_part.new.sink) c.judge_part.result c.judge_part.ensures.ok

pub returns-in-Ok-clause-err : goal.returns-in-Ok-clause-err
returns-in-Ok-clause-err g c =
    let limit = c.args.limit in
    let text = c.args.text.now in
    let front = c.cut_text.result.0.now in
    let part = c.cut_text.result.1 in
    let program = c.in-Ok.whole.typed in
    let triples = c.in-Ok.whole.triples in
    begun-weaker (JudgesPart limit program triples (lines_in part)) (Judges limit text)
    (by_cut text front limit part c.cut_text.ensures.cut c.cut_text.ensures.whole c.requires.within program triples c.in-Ok.ensures.program)
    (g.K.Sink.written c.args.sink.now) (g.K.Sink.written c.judge_part.new.sink) c.judge_part.result c.judge_part.ensures.err

pub returns-in-Err-clause-ok : goal.returns-in-Err-clause-ok
returns-in-Err-clause-ok g c =
    let text = c.args.text.now in
    refused_whole c.in-Err.stop (Judges c.args.limit text)
    (λ refusal is. refused refusal c.requires.within (subst (IsPartStop text) is
    (stop_by_cut text c.cut_text.result.0.now c.cut_text.result.1 c.cut_text.ensures.cut c.cut_text.ensures.whole c.in-Err.stop c.in-Err.ensures.stop)))
    (g.K.Sink.written c.args.sink.now) (g.K.Sink.written c.refuse.new.sink) c.refuse.result c.refuse.ensures.ok

pub returns-in-Err-clause-err : goal.returns-in-Err-clause-err
returns-in-Err-clause-err g c =
    let text = c.args.text.now in
    refused_begun c.in-Err.stop (Judges c.args.limit text)
    (λ refusal is. refused refusal c.requires.within (subst (IsPartStop text) is
    (stop_by_cut text c.cut_text.result.0.now c.cut_text.result.1 c.cut_text.ensures.cut c.cut_text.ensures.whole c.in-Err.stop c.in-Err.ensures.stop)))
    (g.K.Sink.written c.args.sink.now) (g.K.Sink.written c.refuse.new.sink) c.refuse.result c.refuse.ensures.err
