use Rattle.pale_text.specs.declared.refusal.TextStop.TheVariants as stop
use Rattle.pale_starts.proofs.StopLemmas.{handed_on, stop_of_parts}
use Rattle.pale_trace.proofs.TellingLemmas.{cut_trace, uncut_trace}
use Rattle.pale_trace.proofs.tracing.trace.Goals as goal

pub returns-in_err-whole-clause-stop : goal.returns-in_err-whole-clause-stop
returns-in_err-whole-clause-stop c =
    let text = c.args.text.now in
    let parts = c.cut_text.result in
    let e = c.in_err-whole.field-0.0 in
    handed_on text c.from_residual.result e c.from_residual.ensures.1
    (stop_of_parts text parts.0.now parts.1 c.cut_text.ensures.cut c.cut_text.ensures.whole e c.in_err-whole.ensures.stop)

pub returns-in_err-trace_part-in-Some-clause-stop : goal.returns-in_err-trace_part-in-Some-clause-stop
returns-in_err-trace_part-in-Some-clause-stop c =
    let text = c.args.text.now in
    let parts = c.cut_text.result in
    handed_on text c.from_residual-in_err-trace_part-in-Some.result stop.NoMemory c.from_residual-in_err-trace_part-in-Some.ensures.1
    (stop_of_parts text parts.0.now parts.1 c.cut_text.ensures.cut c.cut_text.ensures.whole stop.NoMemory tt)

pub returns-in-Some-clause-trace : goal.returns-in-Some-clause-trace
returns-in-Some-clause-trace c =
    let parts = c.cut_text.result in
    let whole = c.in_ok-whole.whole in
    let said = c.in_ok-trace_part-in-Some.field-0 in
    cut_trace c.args.text.now parts.0.now parts.1 c.in-Some.part c.in-Some.is c.cut_text.ensures.cut whole.typed whole.triples
    c.in_ok-whole.ensures.program said.ending said.text c.in_ok-trace_part-in-Some.ensures

pub returns-clause-trace : goal.returns-clause-trace
returns-clause-trace c =
    let parts = c.cut_text.result in
    let whole = c.in_ok-whole.whole in
    uncut_trace c.args.text.now parts.0.now parts.1 c.in-None.is c.cut_text.ensures.whole whole.typed whole.triples
    c.in_ok-whole.ensures.program c.in_ok-store_refused-in-None.field-0 c.in_ok-store_refused-in-None.ensures
