use Rattle.std.proofs.Common.{Ok, Result, ℕ, sym, subst}
use Rattle.store_exec.specs.declared.fault.Fault.{Fault}
use Rattle.store_trace.specs.Tracing.{TracesCode, TracesTriple, stops}
use Rattle.store_runner.proofs.triples.trace_triple.Goals as goal

pub arrived-requires-clause-place : goal.arrived-requires-clause-place
arrived-requires-clause-place c =
    let types = c.args.types.now in
    let code = (c.args.triple.now).code in
    let traced = c.in_ok-traced.traced in
    c.requires.places traced.at c.in-Ok.place
    (c.traces_are_runs.ensures.outcomes types code c.args.store traced.at traced.events (Ok c.in-Ok.place)
    (subst (λ (e : Result ℕ Fault). TracesCode types code c.args.store traced.events traced.at e) c.in-Ok.is c.in_ok-traced.ensures))

pub arrived-requires-clause-at : goal.arrived-requires-clause-at
arrived-requires-clause-at c =
    let traced = c.in_ok-traced.traced in
    (c.traces_keep_stores_fitting.ensures c.args.types.now c.args.vars.now (c.args.triple.now).code c.args.store traced.at traced.events traced.end
    c.requires.store.0 c.requires.store.1 (c.requires.fits).code c.in_ok-traced.ensures).0

pub returns-in-Err-clause-traced : goal.returns-in-Err-clause-traced
returns-in-Err-clause-traced c =
    let types = c.args.types.now in
    let code = (c.args.triple.now).code in
    let traced = c.in_ok-traced.traced in
    subst (λ (e : Result ℕ Fault). TracesTriple types c.args.vars.now c.args.triple.now c.args.store traced.events traced.at e) (sym c.in-Err.is)
    (stops traced.events traced.at c.in-Err.field-0
    (subst (λ (e : Result ℕ Fault). TracesCode types code c.args.store traced.events traced.at e) c.in-Err.is c.in_ok-traced.ensures))

pub returns-in-Err-clause-fits : goal.returns-in-Err-clause-fits
returns-in-Err-clause-fits c =
    let traced = c.in_ok-traced.traced in
    (c.traces_keep_stores_fitting.ensures c.args.types.now c.args.vars.now (c.args.triple.now).code c.args.store traced.at traced.events traced.end
    c.requires.store.0 c.requires.store.1 (c.requires.fits).code c.in_ok-traced.ensures).0
