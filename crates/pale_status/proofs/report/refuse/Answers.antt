use Rattle.std.proofs.Common.{◌∙◌, ℕ, List, subst, sym}
use Rattle.pale_status.specs.declared.status.Status.TheVariants.{Text}
use Rattle.pale_status.specs.Report.{Refuses, refused}
use Rattle.pale_status.proofs.WrittenLemmas.{said_begun, said_whole}
use Rattle.pale_status.proofs.report.refuse.Goals as goal

pub returns-in_ok-line-in-Refused-clause-ok : goal.returns-in_ok-line-in-Refused-clause-ok
returns-in_ok-line-in-Refused-clause-ok g c =
    let allowed = subst (λ (line : List ℕ). Refuses c.args.stop line Text) (sym (c.as_slice.ensures.value ∙ c.in_ok-line-in-Refused.ensures))
    (refused c.in-Refused.refusal c.in-Refused.is) in
    said_whole (Refuses c.args.stop) (g.K.Sink.written c.args.sink.now) (g.K.Sink.written c.say.new.sink) c.as_slice.result.now Text allowed
    c.say.result c.say.ensures.ok

pub returns-in_ok-line-in-Refused-clause-err : goal.returns-in_ok-line-in-Refused-clause-err
returns-in_ok-line-in-Refused-clause-err g c =
    let allowed = subst (λ (line : List ℕ). Refuses c.args.stop line Text) (sym (c.as_slice.ensures.value ∙ c.in_ok-line-in-Refused.ensures))
    (refused c.in-Refused.refusal c.in-Refused.is) in
    said_begun (Refuses c.args.stop) (g.K.Sink.written c.args.sink.now) (g.K.Sink.written c.say.new.sink) c.as_slice.result.now Text allowed
    c.say.result c.say.ensures.err
