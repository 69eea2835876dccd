use Rattle.routing_walks.specs.WellFormed.{IsThere}
use Rattle.routing_expr.specs.Places.{IsListing, IsOfFirst}
use Rattle.routing_expr.proofs.places.list_places.Given as goal

abbrev pub invariant-loop-place : goal.invariant-loop-place
invariant-loop-place l = IsListing (λ p. IsOfFirst l.store l.place p × IsThere l.store p) l.places.items
