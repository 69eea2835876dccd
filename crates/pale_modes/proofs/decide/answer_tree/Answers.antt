use Rattle.std.proofs.Common.{rules}
use Rattle.pale_status.specs.declared.status.Status.TheVariants.{Text}
use Rattle.pale_modes.specs.Deciding.{Says, big, big_line}
use Rattle.pale_status.proofs.WrittenLemmas.{said_whole, said_begun}
use Rattle.pale_modes.proofs.decide.answer_tree.Goals as goal

pub returns-in-Err-BigFormula-clause-ok : goal.returns-in-Err-BigFormula-clause-ok
returns-in-Err-BigFormula-clause-ok g c =
    said_whole (Says c.args.limit c.args.text.now) (g.K.Sink.written c.args.sink.now) (g.K.Sink.written c.say.new.sink) big_line Text
    (big (c.in-Err-BigFormula.ensures.big (search rules))) c.say.result c.say.ensures.ok

pub returns-in-Err-BigFormula-clause-err : goal.returns-in-Err-BigFormula-clause-err
returns-in-Err-BigFormula-clause-err g c =
    said_begun (Says c.args.limit c.args.text.now) (g.K.Sink.written c.args.sink.now) (g.K.Sink.written c.say.new.sink) big_line Text
    (big (c.in-Err-BigFormula.ensures.big (search rules))) c.say.result c.say.ensures.err
