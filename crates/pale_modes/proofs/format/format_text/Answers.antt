use Rattle.std.proofs.Common.{Err, ap}
use Rattle.pale_text.specs.declared.refusal.TextStop.{TextStop}
use Rattle.pale_modes.specs.Formatting.{Formats}
use Rattle.pale_status.proofs.WrittenLemmas.{refused_begun, refused_whole}
use Rattle.pale_modes.proofs.format.format_text.Goals as goal

pub returns-in-Err-clause-ok : goal.returns-in-Err-clause-ok
returns-in-Err-clause-ok g c =
    refused_whole c.in-Err.stop (Formats c.args.text.now) (λ refusal why. c.in-Err.ensures.refused refusal (ap (λ (e : TextStop). Err e) why))
    (g.K.Sink.written c.args.sink.now) (g.K.Sink.written c.refuse.new.sink) c.refuse.result c.refuse.ensures.ok

pub returns-in-Err-clause-err : goal.returns-in-Err-clause-err
returns-in-Err-clause-err g c =
    refused_begun c.in-Err.stop (Formats c.args.text.now) (λ refusal why. c.in-Err.ensures.refused refusal (ap (λ (e : TextStop). Err e) why))
    (g.K.Sink.written c.args.sink.now) (g.K.Sink.written c.refuse.new.sink) c.refuse.result c.refuse.ensures.err
