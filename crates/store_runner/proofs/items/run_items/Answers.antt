use Rattle.std.proofs.Common.{◌∷◌, List, Result, Ok, Err, ap, ◌∙◌, subst}
use Rattle.std.specs.Borrow.{Bor}
use Rattle.store_exec.specs.declared.fault.Fault.{Fault}
use Rattle.store_exec.specs.declared.code.Item.{Item}
use Rattle.store_exec.specs.Going.{left_over, weight_left}
use Rattle.store_trace.specs.Tracing.{TracesItems}
use Rattle.store_runner.specs.Recordings.{ItemsGoOn, Enters}
use Rattle.store_runner.proofs.RecordingLemmas.{goes-then, goes-end, items-done}
use Rattle.store_runner.proofs.items.run_items.Goals as goal

pub loop-item-preserved-in-Ok : goal.loop-item-preserved-in-Ok
loop-item-preserved-in-Ok c =
    let types = c.args.types.now in
    let l = c.loop-item in
    let mid = c.in-Some.item.now ∷ left_over c.in-Some.more.now l.waiting in
    let entered = subst (Enters types mid l.store l.recorder (weight_left (c.in-Some.item.now ∷ c.in-Some.more.now) l.waiting) c.enter.new.store
    c.enter.new.waiting c.enter.new.recorder)
    (c.in_ok-next-in-Some.was ∙ ap (λ (r : Result (Bor (List Item)) Fault). Ok r) c.in-Ok.is) c.enter.ensures in
    let before = subst (λ (xs : List Item). ItemsGoOn types c.args.items.now c.args.store.now c.args.recorder.now (left_over xs l.waiting) l.store l.recorder)
    c.in-Some.ensures.cases.0 l.invariant.0 in (
      goes-then (TracesItems types c.args.items.now) (TracesItems types mid) (TracesItems types (left_over c.in-Ok.next.now c.enter.new.waiting))
          c.args.store.now l.store c.enter.new.store c.args.recorder.now l.recorder c.enter.new.recorder before entered.0,
      entered.1,
    )

pub returns-in-Err : goal.returns-in-Err
returns-in-Err c =
    let types = c.args.types.now in
    let l = c.loop-item in
    let mid = c.in-Some.item.now ∷ left_over c.in-Some.more.now l.waiting in
    let entered = subst (Enters types mid l.store l.recorder (weight_left (c.in-Some.item.now ∷ c.in-Some.more.now) l.waiting) c.enter.new.store
    c.enter.new.waiting c.enter.new.recorder)
    (c.in_ok-next-in-Some.was ∙ ap (λ (r : Result (Bor (List Item)) Fault). Ok r) c.in-Err.is) c.enter.ensures in
    let before = subst (λ (xs : List Item). ItemsGoOn types c.args.items.now c.args.store.now c.args.recorder.now (left_over xs l.waiting) l.store l.recorder)
    c.in-Some.ensures.cases.0 l.invariant.0 in
    goes-end (TracesItems types c.args.items.now) (TracesItems types mid) c.args.store.now l.store c.enter.new.store c.args.recorder.now l.recorder
    c.enter.new.recorder entered.0 (Err c.in-Err.fault) before entered.1 entered.2

pub returns-in-None-pop : goal.returns-in-None-pop
returns-in-None-pop c =
    let l = c.loop-item in
    items-done c.args.types.now c.args.items.now l.rest.now l.waiting c.args.store.now l.store c.args.recorder.now l.recorder l.invariant.0
    c.in-None.ensures.cases c.in-None-pop.ensures.0
