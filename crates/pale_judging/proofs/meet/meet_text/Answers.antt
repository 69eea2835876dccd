use Rattle.std.proofs.Common.{subst}
use Rattle.whole_program.specs.ProgramTexts.{IsStopOf}
use Rattle.pale_status.proofs.WrittenLemmas.{begun-weaker, whole-weaker, refused_begun, refused_whole}
use Rattle.pale_judging.specs.Meeting.{MeetsProgram, MeetsText, refused, met}
use Rattle.pale_judging.proofs.meet.meet_text.Goals as goal

pub returns-in-Ok-clause-ok : goal.returns-in-Ok-clause-ok
returns-in-Ok-clause-ok g c =
    let program = c.in-Ok.whole.typed in
    let triples = c.in-Ok.whole.triples in
    whole-weaker (MeetsProgram c.args.limit program triples) (MeetsText c.args.limit c.args.text.now)
    (λ output status meets. met program triples output status c.requires.within c.in-Ok.ensures.program meets)
    (g.K.Sink.written c.args.sink.now) (g.K.Sink.written c.meet_program.new.sink) c.meet_program.result c.meet_program.ensures.ok

pub returns-in-Ok-clause-err : goal.returns-in-Ok-clause-err
returns-in-Ok-clause-err g c =
    let program = c.in-Ok.whole.typed in
    let triples = c.in-Ok.whole.triples in
    begun-weaker (MeetsProgram c.args.limit program triples) (MeetsText c.args.limit c.args.text.now)
    (λ output status meets. met program triples output status c.requires.within c.in-Ok.ensures.program meets)
    (g.K.Sink.written c.args.sink.now) (g.K.Sink.written c.meet_program.new.sink) c.meet_program.result c.meet_program.ensures.err

pub returns-in-Err-clause-ok : goal.returns-in-Err-clause-ok
returns-in-Err-clause-ok g c =
    refused_whole c.in-Err.stop (MeetsText c.args.limit c.args.text.now)
    (λ refusal is. refused refusal c.requires.within (subst (IsStopOf c.args.text.now) is c.in-Err.ensures.stop))
    (g.K.Sink.written c.args.sink.now) (g.K.Sink.written c.refuse.new.sink) c.refuse.result c.refuse.ensures.ok

pub returns-in-Err-clause-err : goal.returns-in-Err-clause-err
returns-in-Err-clause-err g c =
    refused_begun c.in-Err.stop (MeetsText c.args.limit c.args.text.now)
    (λ refusal is. refused refusal c.requires.within (subst (IsStopOf c.args.text.now) is c.in-Err.ensures.stop))
    (g.K.Sink.written c.args.sink.now) (g.K.Sink.written c.refuse.new.sink) c.refuse.result c.refuse.ensures.err
