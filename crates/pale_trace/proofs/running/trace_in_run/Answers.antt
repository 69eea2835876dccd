use Rattle.std.proofs.Common.{slice_get}
use Rattle.whole_exec.specs.Answers.{answer_with, stand_of}
use Rattle.pale_run.proofs.EntryLemmas.{the_one}
use Rattle.pale_trace.proofs.RunLemmas.{says_unread, says_ill, says_false, says_met, can_run}
use Rattle.pale_trace.proofs.running.trace_in_run.Goals as goal

pub trace_procedure-requires-clause-start : goal.trace_procedure-requires-clause-start
trace_procedure-requires-clause-start c =
    let program = c.args.program.now in
    let (e, there) = the_one (slice_get program.procs c.args.named.number) c.requires.there in
    can_run program c.args.named.number c.args.named.steps c.args.text.now c.in_ok-fault.field-0 c.in_ok-fault.ensures c.in-Meets.store c.in-Meets.is
    e there c.requires.few

pub returns-in-Refused : goal.returns-in-Refused
returns-in-Refused c =
    says_unread c.args.program.now c.args.named.number c.args.named.steps c.args.text.now c.in_ok-fault.field-0 c.in_ok-fault.ensures
    c.in-Refused.fault c.in-Refused.is c.from.result c.from.ensures c.store_refused.result c.store_refused.ensures

pub returns-in-NotWellFormed : goal.returns-in-NotWellFormed
returns-in-NotWellFormed c =
    says_ill c.args.program.now c.args.named.number c.args.named.steps c.args.text.now c.in_ok-fault.field-0 c.in_ok-fault.ensures
    c.types-types.result.now c.in-Some.vars.now c.types-types.ensures c.in-Some.ensures c.in-NotWellFormed.fault c.in-NotWellFormed.is
    c.ill.result c.ill.ensures

pub returns-in-StartFalse : goal.returns-in-StartFalse
returns-in-StartFalse c =
    says_false c.args.program.now c.args.named.number c.args.named.steps c.args.text.now c.in_ok-fault.field-0 c.in_ok-fault.ensures
    c.in-StartFalse.is c.start_false.result c.start_false.ensures

pub returns-in_ok-run-in-Meets : goal.returns-in_ok-run-in-Meets
returns-in_ok-run-in-Meets c =
    let run = c.in_ok-run-in-Meets.run' in
    says_met c.args.program.now c.args.named.number c.args.named.steps c.args.text.now c.in_ok-fault.field-0 c.in_ok-fault.ensures
    c.in-Meets.store c.in-Meets.is run.events (stand_of run.proc run.at) (answer_with run.at run.end) c.in_ok-run-in-Meets.ensures.traced
    c.run_told.result c.run_told.ensures
