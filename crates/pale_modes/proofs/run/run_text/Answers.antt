use Rattle.std.proofs.Common.{List, ℕ, subst, sym}
use Rattle.pale_starts.specs.Stops.{IsPartStop}
use Rattle.pale_status.specs.declared.status.Status.{Status}
use Rattle.pale_modes.specs.Running.{Runs, run, refused, status_of}
use Rattle.pale_status.proofs.WrittenLemmas.{refused_begun, refused_whole, said_begun, said_whole}
use Rattle.pale_modes.proofs.run.run_text.Goals as goal

pub returns-in-Ok-clause-ok : goal.returns-in-Ok-clause-ok
returns-in-Ok-clause-ok g c =
    let text = c.args.text.now in
    let said = c.in-Ok.said in
    said_whole (Runs text) (g.K.Sink.written c.args.sink.now) (g.K.Sink.written c.say.new.sink) c.as_slice.result.now c.status_of.result
    (subst (λ (s : Status). Runs text c.as_slice.result.now s) (sym c.status_of.ensures)
    (subst (λ (l : List ℕ). Runs text l (status_of said.answer)) (sym c.as_slice.ensures) (run said.answer said.text c.requires c.in-Ok.ensures.run)))
    c.say.result c.say.ensures.ok

pub returns-in-Ok-clause-err : goal.returns-in-Ok-clause-err
returns-in-Ok-clause-err g c =
    let text = c.args.text.now in
    let said = c.in-Ok.said in
    said_begun (Runs text) (g.K.Sink.written c.args.sink.now) (g.K.Sink.written c.say.new.sink) c.as_slice.result.now c.status_of.result
    (subst (λ (s : Status). Runs text c.as_slice.result.now s) (sym c.status_of.ensures)
    (subst (λ (l : List ℕ). Runs text l (status_of said.answer)) (sym c.as_slice.ensures) (run said.answer said.text c.requires c.in-Ok.ensures.run)))
    c.say.result c.say.ensures.err

pub returns-in-Err-clause-ok : goal.returns-in-Err-clause-ok
returns-in-Err-clause-ok g c =
    refused_whole c.in-Err.stop (Runs c.args.text.now)
    (λ refusal is. refused refusal c.requires (subst (IsPartStop c.args.text.now) is c.in-Err.ensures.stop))
    (g.K.Sink.written c.args.sink.now) (g.K.Sink.written c.refuse.new.sink) c.refuse.result c.refuse.ensures.ok

pub returns-in-Err-clause-err : goal.returns-in-Err-clause-err
returns-in-Err-clause-err g c =
    refused_begun c.in-Err.stop (Runs c.args.text.now)
    (λ refusal is. refused refusal c.requires (subst (IsPartStop c.args.text.now) is c.in-Err.ensures.stop))
    (g.K.Sink.written c.args.sink.now) (g.K.Sink.written c.refuse.new.sink) c.refuse.result c.refuse.ensures.err
