use Rattle.std.proofs.Common.{◌∙◌, is_some, option_map, ap}
use Rattle.std.proofs.lemmas.Bool.{false≢true}
use Rattle.pale_typed.specs.declared.typed.ProcEntry.{ProcEntry}
use Rattle.pale_typed.specs.declared.typed.TypedProc.{TypedProc}
use Rattle.whole_turns.proofs.Values.{callee_is, back}
use Rattle.whole_turns.proofs.returning.give_back.Goals as goal

-- the callee is there
pub unreachable-requires : goal.unreachable-requires
unreachable-requires c =
    absurd (false≢true (ap is_some (c.in_default.ensures ∙ ap (option_map (λ (e : ProcEntry). e.proc)) c.requires.there)))

pub returned_store-requires-clause-later : goal.returned_store-requires-clause-later
returned_store-requires-clause-later c = c.requires.later

pub returned_store-requires-clause-apart : goal.returned_store-requires-clause-apart
returned_store-requires-clause-apart c = c.requires.apart

pub returns : goal.returns
returns c = λ waiting.
    let w = c.args.suspended in
    let proc = callee_is (c.args.program.now).procs (w.call.now).callee c.requires.callee c.in-Some.callee.now c.requires.there c.in-Some.ensures in
    back c.args.program.now c.args.exited w c.requires.callee c.as_slice.result.now c.in_ok-after.after waiting c.requires.there
    (c.as_slice.ensures ∙ ap (λ (p : TypedProc). p.results) proc) c.in_ok-after.ensures
