use Rattle.std.proofs.Common.{◌∙◌, ap, subst₂, refl, List, Result, Ok}
use Rattle.store_exec.specs.declared.fault.Fault.{Fault}
use Rattle.store_exec.specs.declared.code.Item.{Item}
use Rattle.store_exec.proofs.GoingLemmas.{Do-ready}
use Rattle.store_runner.specs.Recordings.{Chooses}
use Rattle.store_runner.proofs.RecordingLemmas.{Do-next, Do-fault, If-entered}
use Rattle.store_runner.proofs.items.enter.Goals as goal

pub show_act-requires-clause-ready : goal.show_act-requires-clause-ready
show_act-requires-clause-ready c = Do-ready c.args.types.now c.args.store.now c.args.more.now c.args.waiting.now c.args.item.now c.requires.can c.in-Do.line
    c.in-Do.act c.in-Do.is

pub returns-in-Ok : goal.returns-in-Ok
returns-in-Ok c = Do-next c.args.types.now c.args.store.now c.args.more.now c.args.waiting.now c.args.item.now c.requires.can c.args.recorder.now
    c.show_act.new.recorder c.in-Do.line c.in-Do.act c.in-Do.is
    c.show_act.new.store c.show_act.result c.show_act.ensures tt
    (c.in_ok-show_act-in-Do.was ∙ ap (λ (r : Result (Unit {0}) Fault). Ok r) c.in-Ok.is)

pub returns-in-Err : goal.returns-in-Err
returns-in-Err c = Do-fault c.args.types.now c.args.store.now c.args.more.now c.args.waiting.now c.args.item.now c.requires.can c.args.recorder.now
    c.show_act.new.recorder c.in-Do.line c.in-Do.act c.in-Do.is
    c.show_act.new.store c.show_act.result c.show_act.ensures c.in-Err.fault
    (c.in_ok-show_act-in-Do.was ∙ ap (λ (r : Result (Unit {0}) Fault). Ok r) c.in-Err.is)

pub returns-in_ok-push-in-If : goal.returns-in_ok-push-in-If
returns-in_ok-push-in-If c = If-entered c.args.types.now c.args.store.now c.args.more.now c.args.waiting.now c.args.item.now c.requires.can
    c.args.recorder.now c.choose.new.recorder
    c.in-If.line c.in-If.cond c.in-If.taken c.in-If.other c.in-If.is c.args.more refl c.push.new.self c.in_ok-push-in-If.ensures.ok c.choose.result
    (subst₂ (λ (xs ys : List Item). Chooses c.args.store.now c.in-If.line c.in-If.cond xs ys c.args.recorder.now c.choose.new.recorder c.choose.result)
    c.as_slice.ensures c.as_slice-in-If.ensures c.choose.ensures)
