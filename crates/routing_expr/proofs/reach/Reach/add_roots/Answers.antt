use Rattle.std.proofs.Common.{arith}
use Rattle.std.proofs.lemmas.Option.{slice_get-get_or}
use Rattle.routing_expr.proofs.ReachLemmas.{reaches_alike, reaches_both, root_step, roots_all}
use Rattle.routing_expr.proofs.reach.Reach.add_roots.Goals as goal

pub loop-root-preserved : goal.loop-root-preserved
loop-root-preserved c =
    reaches_alike _ _ _ _ (root_step c.args.types.now c.args.vars.now c.args.store.now c.args.roots.now c.loop-root.root-index _
    (slice_get-get_or c.args.roots.now c.loop-root.root-index (record { 0 = 0 }) c.loop-root-test.true))
    (reaches_both _ _ _ _ _ c.loop-root.invariant c.in_ok-add_named.ensures)

pub returns : goal.returns
returns c = reaches_alike _ _ _ _ (roots_all c.args.types.now c.args.vars.now c.args.store.now c.args.roots.now c.loop-root.root-index
    (omega (arith, c.loop-root-test.false))) c.loop-root.invariant
