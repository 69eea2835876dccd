use Rattle.std.proofs.Common.{arith, inl, inr}
use Rattle.store_core.specs.Stores.{StoreMap}
use Rattle.routing_walks.specs.declared.fault.Place.{Place}
use Rattle.routing_walks.specs.WellFormed.{IsDangling, value_at, IsThere}
use Rattle.routing_walks.proofs.LiveLemmas.{IsSome-and}
use Rattle.routing_expr.proofs.PlaceLemmas.{first_place}
use Rattle.routing_expr.proofs.dangling.first_dangling.Goals as goal

there : (s : StoreMap) (p : Place) → IsDangling s p → IsThere s p
there s p h = elim h [ inl named ↦ IsSome-and (value_at s p) _ named | inr held ↦ IsSome-and (value_at s p) _ held ]

pub returns-then-dangles-clause-some : goal.returns-then-dangles-clause-some
returns-then-dangles-clause-some c =
    first_place c.args.store.now c.args.places.now (IsDangling c.args.store.now)
    (there c.args.store.now) c.requires c.loop-place.place-index _ (omega arith) c.loop-place.invariant (c.dangles.ensures.0 c.if-dangles.true)
