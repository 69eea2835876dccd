use Rattle.std.proofs.Common.{refl, sym, subst, arith, ◌+◌}
use Rattle.routing_expr.specs.Places.{IsListing, IsVarBelow}
use Rattle.routing_expr.proofs.PlaceLemmas.{vars_step}
use Rattle.routing_expr.proofs.places.list_vars.Goals as goal

pub loop-index-preserved : goal.loop-index-preserved
loop-index-preserved c =
    subst (λ xs. IsListing (IsVarBelow (c.loop-index.index + 1)) xs) (sym c.in_ok-push.ensures.items)
    (vars_step c.loop-index.places.items c.loop-index.index _ refl c.loop-index.invariant)

pub returns : goal.returns
returns c = subst (λ n. IsListing (IsVarBelow n) c.loop-index.places.items) (omega (arith, c.vars-index-end.ensures.value)) c.loop-index.invariant
