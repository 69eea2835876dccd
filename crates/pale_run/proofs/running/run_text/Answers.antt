use Rattle.std.proofs.Common.{slice_get}
use Rattle.pale_run.proofs.EntryLemmas.{the_one}
use Rattle.pale_run.proofs.TellingLemmas.{says_unread, says_ill, says_false, says_met, can_run, exits_fit}
use Rattle.pale_run.proofs.running.run_text.Goals as goal

pub run_procedure-requires-clause-start : goal.run_procedure-requires-clause-start
run_procedure-requires-clause-start c =
    let program = c.args.program.now in
    let (e, there) = the_one (slice_get program.procs c.args.named.number) c.requires.there in
    can_run program c.args.named.number c.args.named.steps c.types-types.result.now c.in-Some.vars.now c.types-types.ensures c.in-Some.ensures
    c.args.text.now c.in_ok-fault.field-0 c.in_ok-fault.ensures c.in-Meets.store c.in-Meets.is
    e there c.requires.few

pub told-requires-in-Meets : goal.told-requires-in-Meets
told-requires-in-Meets c =
    let program = c.args.program.now in
    let (e, there) = the_one (slice_get program.procs c.args.named.number) c.requires.there in
    exits_fit program c.args.named.number c.args.named.steps c.types-types.result.now c.in-Some.vars.now c.types-types.ensures c.in-Some.ensures
    c.args.text.now c.in_ok-fault.field-0 c.in_ok-fault.ensures c.in-Meets.store c.in-Meets.is
    e there c.in_ok-answer-in-Meets.answer c.in_ok-answer-in-Meets.ensures.fits

pub returns-in-Refused : goal.returns-in-Refused
returns-in-Refused c =
    let program = c.args.program.now in
    says_unread program c.args.named.number c.args.named.steps c.types-types.result.now c.in-Some.vars.now c.types-types.ensures c.in-Some.ensures
    c.args.text.now c.in_ok-fault.field-0 c.in_ok-fault.ensures c.in-Refused.fault c.in-Refused.is
    c.from.result c.from.ensures c.store_refused.result c.store_refused.ensures

pub returns-in-NotWellFormed : goal.returns-in-NotWellFormed
returns-in-NotWellFormed c =
    let program = c.args.program.now in
    says_ill program c.args.named.number c.args.named.steps c.types-types.result.now c.in-Some.vars.now c.types-types.ensures c.in-Some.ensures
    c.args.text.now c.in_ok-fault.field-0 c.in_ok-fault.ensures c.in-NotWellFormed.fault c.in-NotWellFormed.is
    c.told.result c.told.ensures

pub returns-in-StartFalse : goal.returns-in-StartFalse
returns-in-StartFalse c =
    let program = c.args.program.now in
    says_false program c.args.named.number c.args.named.steps c.types-types.result.now c.in-Some.vars.now c.types-types.ensures c.in-Some.ensures
    c.args.text.now c.in_ok-fault.field-0 c.in_ok-fault.ensures c.in-StartFalse.is
    c.told-in-StartFalse.result c.told-in-StartFalse.ensures

pub returns-in_ok-answer-in-Meets : goal.returns-in_ok-answer-in-Meets
returns-in_ok-answer-in-Meets c =
    let program = c.args.program.now in
    says_met program c.args.named.number c.args.named.steps c.types-types.result.now c.in-Some.vars.now c.types-types.ensures c.in-Some.ensures
    c.args.text.now c.in_ok-fault.field-0 c.in_ok-fault.ensures c.in-Meets.store c.in-Meets.is
    c.in_ok-answer-in-Meets.answer c.in_ok-answer-in-Meets.ensures.ran c.told-in-Meets.result c.told-in-Meets.ensures
