use Rattle.std.proofs.Common.{arith}
use Rattle.symbolic_steps.proofs.MergeLemmas.{merging-end}
use Rattle.symbolic_steps.proofs.merging.merged.Goals as goal

pub returns : goal.returns
returns c = λ next wanted s is.
    merging-end c.args.l.now.types c.args.l.now.vars c.args.way.0 c.args.first.now c.args.other.now c.loop-place.place next wanted c.args.w.now
    c.loop-place.w c.loop-place.values (omega arith) (c.loop-place.invariant next wanted) s is
