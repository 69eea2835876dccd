use Rattle.std.proofs.Common.{◌⊎◌}
use Rattle.std.specs.Prelude.{Contains}
use Rattle.routing_walks.specs.WellFormed.{IsThere}
use Rattle.routing_expr.specs.Places.{IsListing, IsFieldBelow}
use Rattle.routing_expr.proofs.places.add_fields.Given as goal

abbrev pub invariant-loop-index : goal.invariant-loop-index
invariant-loop-index l = IsListing (λ p. Contains l.fn.places.items p ⊎ (IsFieldBelow l.cell l.index p × IsThere l.store p)) l.places.items
