use Rattle.std.proofs.Common.{◌∙◌, ap, subst, Result, Ok}
use Rattle.store_exec.specs.declared.fault.Fault.{Fault}
use Rattle.store_runner.specs.Recordings.{DoesWell}
use Rattle.whole_turns.proofs.plain.run_act.Goals as goal

pub returns-in-Ok : goal.returns-in-Ok
returns-in-Ok c = subst (DoesWell c.args.types.now c.args.line c.args.act.now c.args.store c.execute.new.store)
    (c.in_ok-execute.was ∙ ap (λ (r : Result (Unit {0}) Fault). Ok r) c.in-Ok.is) c.execute.ensures

pub returns-in-Err : goal.returns-in-Err
returns-in-Err c =
    let h = subst (DoesWell c.args.types.now c.args.line c.args.act.now c.args.store c.execute.new.store)
    (c.in_ok-execute.was ∙ ap (λ (r : Result (Unit {0}) Fault). Ok r) c.in-Err.is) c.execute.ensures in h
