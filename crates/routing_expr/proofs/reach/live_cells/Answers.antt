use Rattle.std.proofs.Common.{arith}
use Rattle.routing_expr.proofs.ReachLemmas.{live_all}
use Rattle.routing_expr.proofs.reach.live_cells.Goals as goal

pub returns : goal.returns
returns c = λ d.
    let all = live_all c.args.store.now c.loop-place.place (omega (arith, c.cells-place-end.ensures)) d in
    let was = c.loop-place.invariant d in
    (λ h. all.0 (was.0 h), λ h. was.1 (all.1 h))
