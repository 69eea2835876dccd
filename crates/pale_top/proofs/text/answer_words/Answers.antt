use Rattle.std.proofs.Common.{rules, map}
use Rattle.std.specs.String.{string_bytes}
use Rattle.pale_status.specs.declared.status.Status.TheVariants.{Words}
use Rattle.pale_status.proofs.WrittenLemmas.{begun-weaker, whole-weaker, said_begun, said_whole}
use Rattle.pale_top.specs.Output.{CallOutput, Output, given, refused, usage_line}
use Rattle.pale_top.proofs.text.answer_words.Goals as goal

pub returns-in-Ok-clause-ok : goal.returns-in-Ok-clause-ok
returns-in-Ok-clause-ok g c =
    whole-weaker (Output c.in-Ok.settings c.args.text.now) (CallOutput (map string_bytes c.args.words.now.items) c.args.text.now)
    (given c.in-Ok.settings c.in-Ok.ensures.ok) (g.K.Sink.written c.args.sink.now) (g.K.Sink.written c.obey.new.sink) c.obey.result c.obey.ensures.ok

pub returns-in-Ok-clause-err : goal.returns-in-Ok-clause-err
returns-in-Ok-clause-err g c =
    begun-weaker (Output c.in-Ok.settings c.args.text.now) (CallOutput (map string_bytes c.args.words.now.items) c.args.text.now)
    (given c.in-Ok.settings c.in-Ok.ensures.ok) (g.K.Sink.written c.args.sink.now) (g.K.Sink.written c.obey.new.sink) c.obey.result c.obey.ensures.err

pub returns-in-Err-Refused-clause-ok : goal.returns-in-Err-Refused-clause-ok
returns-in-Err-Refused-clause-ok g c =
    said_whole (CallOutput (map string_bytes c.args.words.now.items) c.args.text.now) (g.K.Sink.written c.args.sink.now) (g.K.Sink.written c.say.new.sink)
    usage_line Words (refused (c.in-Err-Refused.ensures.refused (search rules))) c.say.result c.say.ensures.ok

pub returns-in-Err-Refused-clause-err : goal.returns-in-Err-Refused-clause-err
returns-in-Err-Refused-clause-err g c =
    said_begun (CallOutput (map string_bytes c.args.words.now.items) c.args.text.now) (g.K.Sink.written c.args.sink.now) (g.K.Sink.written c.say.new.sink)
    usage_line Words (refused (c.in-Err-Refused.ensures.refused (search rules))) c.say.result c.say.ensures.err
