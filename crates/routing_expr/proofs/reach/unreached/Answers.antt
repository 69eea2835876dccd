use Rattle.std.proofs.Common.{◌≡◌, refl, List, ◌∷◌, [], length, arith}
use Rattle.store_core.specs.declared.ids.CellId.{CellId}
use Rattle.routing_expr.proofs.ReachLemmas.{reach_init, reach_step, reach_done}
use Rattle.routing_expr.proofs.reach.unreached.Goals as goal

no_length : (cells : List CellId) → length cells ≡ 0 → cells ≡ []
no_length [] e = refl
no_length (c ∷ cells) e = absurd (omega arith)

pub loop-cell-init : goal.loop-cell-init
loop-cell-init c = reach_init c.args.types.now c.args.vars.now c.args.store.now c.args.roots.now _ _ c.in_ok-live_cells.ensures c.new.ensures.items
    c.in_ok-add_roots.ensures

pub loop-cell-preserved : goal.loop-cell-preserved
loop-cell-preserved c =
    reach_step c.args.types.now c.args.vars.now c.args.store.now c.args.roots.now c.loop-cell.reach _ _ c.in-Some.cell refl c.in-Some.ensures.items
    c.in_ok-add_children.ensures c.loop-cell.invariant

pub returns-clause-left : goal.returns-clause-left
returns-clause-left c =
    reach_done c.args.types.now c.args.vars.now c.args.store.now c.args.roots.now c.loop-cell.reach c.loop-cell.invariant
    (no_length _ (omega (arith, c.in_default.ensures.cases.0)))
