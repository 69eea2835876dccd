use Rattle.std.proofs.Common.{◌≡◌, ◌∙◌, List, Option, Some, IfSome, sym, ap, subst}
use Rattle.store_core.specs.Stores.{StoreMap}
use Rattle.store_trace.specs.declared.event.Event.{Event}
use Rattle.store_trace.specs.Recording.{recorded}
use Rattle.whole_trace.specs.Traces.{TracedRun}
use Rattle.whole_exec.specs.Answers.{answer_with, stand_of}
use Rattle.whole_exec.proofs.running.trace_procedure.Goals as goal

-- what was recorded is all that was shown, and a store that was settled is the same
pub returns-clause-traced : goal.returns-clause-traced
returns-clause-traced c =
    let program = c.args.program.now in
    let stood = c.in_ok-stood.stood in
    let told = c.in_ok-stood.ensures.traced in
    let kept : c.go.new.recorder ≡ Some told.0 = told.2 ∙ ap (λ (o : Option (List Event)). recorded o told.0) c.on-recorder.ensures in
    let events = subst (λ (o : Option (List Event)). IfSome o (λ shown. c.into_events.result ≡ shown)) kept c.into_events.ensures in
    subst (λ (s : StoreMap). TracedRun program c.args.number c.args.store c.args.steps c.into_events.result (stand_of stood.proc s) (answer_with s stood.end))
    (sym c.settle.ensures)
    (subst (λ (l : List Event). TracedRun program c.args.number c.args.store c.args.steps l (stand_of stood.proc stood.at) (answer_with stood.at stood.end))
    (sym events) told.1)
