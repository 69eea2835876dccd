use Rattle.std.proofs.Common.{subst, sym}
use Rattle.store_exec.specs.Cuts.{IsFirstCause}
use Rattle.store_exec.proofs.CutLemmas.{at-fault}
use Rattle.store_runner.proofs.cuts.at_cut.Goals as goal

pub returns-in-Some : goal.returns-in-Some
returns-in-Some c = subst (IsFirstCause c.args.types.now c.args.vars.now c.args.cut.now c.args.store.now) (sym c.cause_of.ensures)
    (at-fault c.args.types.now c.args.vars.now c.args.cut.now c.args.store.now c.in-Some.fault ((c.in_ok-fault.ensures.some c.in-Some.fault).0 c.in-Some.is))
