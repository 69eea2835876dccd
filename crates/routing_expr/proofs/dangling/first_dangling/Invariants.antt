use Rattle.std.proofs.Common.{ℕ, ◌<◌, get_or}
use Rattle.routing_walks.specs.declared.fault.Place.{Place}
use Rattle.routing_walks.specs.WellFormed.{IsDangling}
use Rattle.routing_expr.proofs.dangling.first_dangling.Given as goal

abbrev pub invariant-loop-place : goal.invariant-loop-place
invariant-loop-place l = (k : ℕ) (d : Place) → k < l.place-index → IsDangling l.store (get_or l.places k d) → ⊥
