use Rattle.std.proofs.Common.{◌∙◌, sym, ap, subst, ℕ, List, Bool, Result, Ok, Err}
use Rattle.store_exec.specs.declared.fault.Fault.{Fault}
use Rattle.store_exec.specs.declared.code.Item.{Item}
use Rattle.store_exec.specs.declared.code.Code.{Code}
use Rattle.store_exec.specs.Going.{CanRun}
use Rattle.store_exec.specs.Fits.{CanRunCode}
use Rattle.store_exec.proofs.CanRunLemmas.{items-can, branch-can}
use Rattle.store_trace.specs.Tracing.{TracesCode}
use Rattle.store_trace.proofs.CodeTraces.{items-stop}
use Rattle.store_trace.proofs.TracedRuns.{items-runs}
use Rattle.store_runner.specs.Recordings.{GoesOn, Tells}
use Rattle.store_runner.proofs.RecordingLemmas.{goes-then, goes-end}
use Rattle.store_runner.proofs.CodeRecordings.{items-ended, items-stopped, cut-end, true-goes, false-goes, stop-end}
use Rattle.store_runner.proofs.running.go.Goals as goal

pub run_items-requires-clause-nothing : goal.run_items-requires-clause-nothing
run_items-requires-clause-nothing c = c.loop-nothing.invariant.2

pub run_items-requires-clause-can : goal.run_items-requires-clause-can
run_items-requires-clause-can c = subst (λ (xs : List Item). CanRun c.args.types.now c.loop-nothing.store xs) (sym c.as_slice.ensures)
    (items-can c.args.types.now c.loop-nothing.store c.loop-nothing.rest.now c.loop-nothing.invariant.1)

pub returns-in-Err : goal.returns-in-Err
returns-in-Err c =
    let types = c.args.types.now in
    let l = c.loop-nothing in
    let it = items-stopped types (l.rest.now).items c.as_slice.result.now l.store c.run_items.new.store l.recorder c.run_items.new.recorder c.run_items.result
    c.in-Err.fault c.as_slice.ensures c.run_items.ensures (c.in_ok-run_items.was ∙ ap (λ (r : Result (Unit {0}) Fault). Ok r) c.in-Err.is) in
    goes-end (TracesCode types c.args.code.now) (TracesCode types l.rest.now) c.args.store.now l.store c.run_items.new.store c.args.recorder.now l.recorder
    c.run_items.new.recorder it.0 (Err c.in-Err.fault) l.invariant.0
    (items-stop types l.rest.now l.store it.0 c.run_items.new.store c.in-Err.fault it.1) it.2

pub returns-in-Cut : goal.returns-in-Cut
returns-in-Cut c =
    let types = c.args.types.now in
    let l = c.loop-nothing in
    let it = items-ended types (l.rest.now).items c.as_slice.result.now l.store c.run_items.new.store l.recorder c.run_items.new.recorder c.run_items.result
    c.as_slice.ensures c.run_items.ensures (c.in_ok-run_items.was ∙ ap (λ (r : Result (Unit {0}) Fault). Ok r) c.in-Ok.is) in
    let end = cut-end types l.rest.now l.store c.run_items.new.store l.recorder c.run_items.new.recorder it.0 it.1 it.2 c.in-Cut.place c.in-Cut.is in
    goes-end (TracesCode types c.args.code.now) (TracesCode types l.rest.now) c.args.store.now l.store c.run_items.new.store c.args.recorder.now l.recorder
    c.run_items.new.recorder end.0 (Ok c.in-Cut.place) l.invariant.0 end.1 end.2

pub tell-requires : goal.tell-requires
tell-requires c = c.loop-nothing.invariant.2

pub loop-nothing-preserved-in-Ok-true : goal.loop-nothing-preserved-in-Ok-true
loop-nothing-preserved-in-Ok-true c =
    let types = c.args.types.now in
    let l = c.loop-nothing in
    let it = items-ended types (l.rest.now).items c.as_slice.result.now l.store c.run_items.new.store l.recorder c.run_items.new.recorder c.run_items.result
    c.as_slice.ensures c.run_items.ensures (c.in_ok-run_items.was ∙ ap (λ (r : Result (Unit {0}) Fault). Ok r) c.in-Ok.is) in
    let told = subst (Tells c.run_items.new.store c.in-Branch.line c.in-Branch.cond c.run_items.new.recorder c.tell.new.recorder)
    (c.in_ok-tell-in-Branch.was ∙ ap (λ (r : Result Bool Fault). Ok r) (c.in-Ok-true.is ∙ ap (λ (b : Bool). Ok b) c.in-Ok-true.field-0-test))
    c.tell.ensures in
    let step = true-goes types l.rest.now l.store c.run_items.new.store l.recorder c.run_items.new.recorder it.0 it.1 it.2 c.in-Branch.line c.in-Branch.cond
    c.in-Branch.taken c.in-Branch.other c.in-Branch.is c.tell.new.recorder told.0 told.1 in
    let can = branch-can types l.store l.rest.now l.invariant.1 c.run_items.new.store c.in-Branch.line c.in-Branch.cond c.in-Branch.taken c.in-Branch.other
    c.in-Branch.is (items-runs types (l.rest.now).items l.store it.0 c.run_items.new.store (Ok tt) it.1) in (
      subst (λ (d : Code). GoesOn ℕ (TracesCode types c.args.code.now) (TracesCode types d) c.args.store.now c.args.recorder.now c.run_items.new.store
          c.tell.new.recorder) (sym c.get-rest.ensures)
          (goes-then (TracesCode types c.args.code.now) (TracesCode types l.rest.now) (TracesCode types c.in-Branch.taken) c.args.store.now l.store
          c.run_items.new.store c.args.recorder.now l.recorder c.tell.new.recorder l.invariant.0 step),
      subst (CanRunCode types c.run_items.new.store) (sym c.get-rest.ensures) can.0,
      l.invariant.2,
    )

pub loop-nothing-preserved : goal.loop-nothing-preserved
loop-nothing-preserved c =
    let types = c.args.types.now in
    let l = c.loop-nothing in
    let it = items-ended types (l.rest.now).items c.as_slice.result.now l.store c.run_items.new.store l.recorder c.run_items.new.recorder c.run_items.result
    c.as_slice.ensures c.run_items.ensures (c.in_ok-run_items.was ∙ ap (λ (r : Result (Unit {0}) Fault). Ok r) c.in-Ok.is) in
    let told = subst (Tells c.run_items.new.store c.in-Branch.line c.in-Branch.cond c.run_items.new.recorder c.tell.new.recorder)
    (c.in_ok-tell-in-Branch.was ∙ ap (λ (r : Result Bool Fault). Ok r) (c.in-Ok-false.is ∙ ap (λ (b : Bool). Ok b) c.in-Ok-false.field-0-test))
    c.tell.ensures in
    let step = false-goes types l.rest.now l.store c.run_items.new.store l.recorder c.run_items.new.recorder it.0 it.1 it.2 c.in-Branch.line c.in-Branch.cond
    c.in-Branch.taken c.in-Branch.other c.in-Branch.is c.tell.new.recorder told.0 told.1 in
    let can = branch-can types l.store l.rest.now l.invariant.1 c.run_items.new.store c.in-Branch.line c.in-Branch.cond c.in-Branch.taken c.in-Branch.other
    c.in-Branch.is (items-runs types (l.rest.now).items l.store it.0 c.run_items.new.store (Ok tt) it.1) in (
      subst (λ (d : Code). GoesOn ℕ (TracesCode types c.args.code.now) (TracesCode types d) c.args.store.now c.args.recorder.now c.run_items.new.store
          c.tell.new.recorder) (sym c.get-rest-in-Ok-false.ensures)
          (goes-then (TracesCode types c.args.code.now) (TracesCode types l.rest.now) (TracesCode types c.in-Branch.other) c.args.store.now l.store
          c.run_items.new.store c.args.recorder.now l.recorder c.tell.new.recorder l.invariant.0 step),
      subst (CanRunCode types c.run_items.new.store) (sym c.get-rest-in-Ok-false.ensures) can.1,
      l.invariant.2,
    )

pub returns-in-Err-2 : goal.returns-in-Err-2
returns-in-Err-2 c =
    let types = c.args.types.now in
    let l = c.loop-nothing in
    let it = items-ended types (l.rest.now).items c.as_slice.result.now l.store c.run_items.new.store l.recorder c.run_items.new.recorder c.run_items.result
    c.as_slice.ensures c.run_items.ensures (c.in_ok-run_items.was ∙ ap (λ (r : Result (Unit {0}) Fault). Ok r) c.in-Ok.is) in
    let told = subst (Tells c.run_items.new.store c.in-Branch.line c.in-Branch.cond c.run_items.new.recorder c.tell.new.recorder)
    (c.in_ok-tell-in-Branch.was ∙ ap (λ (r : Result Bool Fault). Ok r) c.in-Err-2.is) c.tell.ensures in
    let end = stop-end types l.rest.now l.store c.run_items.new.store l.recorder c.run_items.new.recorder it.0 it.1 it.2 c.in-Branch.line c.in-Branch.cond
    c.in-Branch.taken c.in-Branch.other c.in-Branch.is c.tell.new.recorder c.in-Err-2.fault told.0 told.1 told.2 in
    goes-end (TracesCode types c.args.code.now) (TracesCode types l.rest.now) c.args.store.now l.store c.run_items.new.store c.args.recorder.now l.recorder
    c.tell.new.recorder end.0 (Err c.in-Err-2.fault) l.invariant.0 end.1 end.2
