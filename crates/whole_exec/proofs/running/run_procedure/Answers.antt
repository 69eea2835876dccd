use Rattle.std.proofs.Common.{◌≡◌, ap, sym, subst}
use Rattle.std.specs.Prelude.{ℕ, slice_get, IsSomeAnd}
use Rattle.store_core.specs.Stores.{StoreMap, Fits}
use Rattle.whole_run.specs.Runs.{WholeRun}
use Rattle.whole_trace.specs.Traces.{Stand, TracedRun}
use Rattle.whole_exec.specs.declared.answer.Answer.TheVariants as answer
use Rattle.whole_turns.specs.declared.ending.RunEnd.{RunEnd}
use Rattle.whole_exec.specs.Answers.{answer_with, stand_of}
use Rattle.whole_exec.proofs.running.run_procedure.Goals as goal

pub returns-in-Running-clause-ran : goal.returns-in-Running-clause-ran
returns-in-Running-clause-ran c =
    let program = c.args.program.now in
    let stood = c.in_ok-stood.stood in
    let told = c.in_ok-stood.ensures.traced in
    subst (λ (e : RunEnd). WholeRun program c.args.number c.args.store c.args.steps (answer_with stood.at e)) c.in-Running.is
    (c.traces_are_whole_runs.ensures.answers program c.args.number c.args.store c.args.steps told.0 (stand_of stood.proc stood.at)
    (answer_with stood.at stood.end) told.1)

pub returns-in-Fail-clause-ran : goal.returns-in-Fail-clause-ran
returns-in-Fail-clause-ran c =
    let program = c.args.program.now in
    let stood = c.in_ok-stood.stood in
    let told = c.in_ok-stood.ensures.traced in
    subst (λ (e : RunEnd). WholeRun program c.args.number c.args.store c.args.steps (answer_with stood.at e)) c.in-Fail.is
    (c.traces_are_whole_runs.ensures.answers program c.args.number c.args.store c.args.steps told.0 (stand_of stood.proc stood.at)
    (answer_with stood.at stood.end) told.1)

pub returns-in-Exit-clause-ran : goal.returns-in-Exit-clause-ran
returns-in-Exit-clause-ran c =
    let program = c.args.program.now in
    let stood = c.in_ok-stood.stood in
    let told = c.in_ok-stood.ensures.traced in
    subst (λ (e : RunEnd). WholeRun program c.args.number c.args.store c.args.steps (answer_with stood.at e)) c.in-Exit.is
    (c.traces_are_whole_runs.ensures.answers program c.args.number c.args.store c.args.steps told.0 (stand_of stood.proc stood.at)
    (answer_with stood.at stood.end) told.1)

pub returns-in-Running-clause-fits : goal.returns-in-Running-clause-fits
returns-in-Running-clause-fits c = λ t is. absurd cc

pub returns-in-Fail-clause-fits : goal.returns-in-Fail-clause-fits
returns-in-Fail-clause-fits c = λ t is. absurd cc

-- it stands in the procedure that was run
pub returns-in-Exit-clause-fits : goal.returns-in-Exit-clause-fits
returns-in-Exit-clause-fits c = λ t is.
    let program = c.args.program.now in
    let stood = c.in_ok-stood.stood in
    let told = c.in_ok-stood.ensures.traced in
    let traced = subst (λ (e : RunEnd). TracedRun program c.args.number c.args.store c.args.steps told.0 (stand_of stood.proc stood.at)
    (answer_with stood.at e)) c.in-Exit.is told.1 in
    let stands = c.traces_are_whole_runs.ensures.exits program c.args.number c.args.store c.args.steps told.0 (stand_of stood.proc stood.at)
    stood.at traced in
    let here : stood.proc ≡ c.args.number = ap (λ (x : Stand). x.proc) stands in
    let e : answer.Exit stood.at ≡ answer.Exit t = is in
    let same : stood.at ≡ t = cc in
    subst (λ (s : StoreMap). IsSomeAnd (slice_get program.procs c.args.number) (λ e. Fits program.types e.vars s)) same
    (subst (λ (n : ℕ). IsSomeAnd (slice_get program.procs n) (λ e. Fits program.types e.vars stood.at)) here c.in_ok-stood.ensures.fits)
