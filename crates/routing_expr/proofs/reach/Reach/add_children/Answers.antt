use Rattle.std.proofs.Common.{arith, sym}
use Rattle.routing_expr.proofs.ReachLemmas.{reaches_alike, reaches_both, child_step, children_all}
use Rattle.routing_expr.proofs.reach.Reach.add_children.Goals as goal

pub loop-index-preserved : goal.loop-index-preserved
loop-index-preserved c =
    reaches_alike _ _ _ _ (child_step c.args.types.now c.args.vars.now c.args.store.now c.args.cell c.in-Some.ty c.loop-index.index
    (sym c.in-Some.ensures)) (reaches_both _ _ _ _ _ c.loop-index.invariant c.in_ok-add_named.ensures)

pub returns : goal.returns
returns c =
    reaches_alike _ _ _ _ (children_all c.args.types.now c.args.vars.now c.args.store.now c.args.cell c.in-Some.ty c.loop-index.index
    (sym c.in-Some.ensures) (omega (arith, c.fields-index-end.ensures))) c.loop-index.invariant
