use Rattle.std.proofs.Common.{ℕ, ◌<◌, get_or}
use Rattle.routing_walks.specs.declared.fault.Place.{Place}
use Rattle.routing_expr.specs.Judging.{IsRightPlace}
use Rattle.routing_expr.proofs.wrong_field.first_wrong_place.Given as goal

abbrev pub invariant-loop-place : goal.invariant-loop-place
invariant-loop-place l = (k : ℕ) (d : Place) → k < l.place-index → IsRightPlace l.search.types.now l.search.store.now (get_or l.places k d)
