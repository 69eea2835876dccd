use Rattle.std.proofs.Common.{Option, sym, subst}
use Rattle.store_exec.specs.declared.cause.Cause.{Cause}
use Rattle.store_exec.specs.Cuts.{AtCut}
use Rattle.store_exec.specs.Fits.{CutFits}
use Rattle.store_trace.specs.Tracing.{fails}
use Rattle.store_runner.proofs.TripleLemmas.{by_recursion_there, ends_with}
use Rattle.store_runner.proofs.triples.arrived.Goals as goal

pub at_cut-requires-clause-cut : goal.at_cut-requires-clause-cut
at_cut-requires-clause-cut c =
    by_recursion_there (CutFits c.args.types.now c.args.vars.now) (c.args.triple.now).cuts c.args.place c.in-Some.cut.now
    (c.requires.triple).cuts (sym c.in-Some.ensures.value)

pub returns-in-Some-2-clause-traced : goal.returns-in-Some-2-clause-traced
returns-in-Some-2-clause-traced c = λ s traces.
    fails c.args.shown c.args.at c.args.place c.in-Some.cut.now c.in-Some-2.cause traces (sym c.in-Some.ensures.value)
    (subst (λ (o : Option Cause). AtCut c.args.types.now c.args.vars.now c.in-Some.cut.now c.args.at o) c.in-Some-2.is c.in_ok-cause.ensures)

pub returns-in_ok-push-in-None-clause-traced : goal.returns-in_ok-push-in-None-clause-traced
returns-in_ok-push-in-None-clause-traced c = λ s traces.
    ends_with c.args.types.now c.args.vars.now c.args.triple.now s c.args.shown c.push.new.self c.args.at c.args.place c.in-Some.cut.now
    c.in_ok-push-in-None.ensures.ok traces (sym c.in-Some.ensures.value)
    (subst (λ (o : Option Cause). AtCut c.args.types.now c.args.vars.now c.in-Some.cut.now c.args.at o) c.in-None.is c.in_ok-cause.ensures)
