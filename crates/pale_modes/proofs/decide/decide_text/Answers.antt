use Rattle.std.proofs.Common.{subst}
use Rattle.ws2s_read.specs.TextReading.{IsReadStop}
use Rattle.pale_modes.specs.Deciding.{Says, Decides, read, refused}
use Rattle.pale_status.proofs.WrittenLemmas.{begun-weaker, refused_begun, refused_whole, whole-weaker}
use Rattle.pale_modes.proofs.decide.decide_text.Goals as goal

pub returns-in-Ok-clause-ok : goal.returns-in-Ok-clause-ok
returns-in-Ok-clause-ok g c =
    whole-weaker (Says c.args.limit c.in-Ok.tree) (Decides c.args.limit c.args.text.now)
    (λ output status says. read c.in-Ok.tree output status c.requires.within c.in-Ok.ensures.text says)
    (g.K.Sink.written c.args.sink.now) (g.K.Sink.written c.answer_tree.new.sink) c.answer_tree.result c.answer_tree.ensures.ok

pub returns-in-Ok-clause-err : goal.returns-in-Ok-clause-err
returns-in-Ok-clause-err g c =
    begun-weaker (Says c.args.limit c.in-Ok.tree) (Decides c.args.limit c.args.text.now)
    (λ output status says. read c.in-Ok.tree output status c.requires.within c.in-Ok.ensures.text says)
    (g.K.Sink.written c.args.sink.now) (g.K.Sink.written c.answer_tree.new.sink) c.answer_tree.result c.answer_tree.ensures.err

pub returns-in-Err-clause-ok : goal.returns-in-Err-clause-ok
returns-in-Err-clause-ok g c =
    refused_whole c.in-Err.stop (Decides c.args.limit c.args.text.now)
    (λ refusal is. refused refusal c.requires.within (subst (IsReadStop c.args.text.now) is c.in-Err.ensures.stop))
    (g.K.Sink.written c.args.sink.now) (g.K.Sink.written c.refuse.new.sink) c.refuse.result c.refuse.ensures.ok

pub returns-in-Err-clause-err : goal.returns-in-Err-clause-err
returns-in-Err-clause-err g c =
    refused_begun c.in-Err.stop (Decides c.args.limit c.args.text.now)
    (λ refusal is. refused refusal c.requires.within (subst (IsReadStop c.args.text.now) is c.in-Err.ensures.stop))
    (g.K.Sink.written c.args.sink.now) (g.K.Sink.written c.refuse.new.sink) c.refuse.result c.refuse.ensures.err
