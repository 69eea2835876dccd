use Rattle.routing_expr.specs.Places.{IsListing, IsVarBelow}
use Rattle.routing_expr.proofs.places.list_vars.Given as goal

abbrev pub invariant-loop-index : goal.invariant-loop-index
invariant-loop-index l = IsListing (IsVarBelow l.index) l.places.items
