use Rattle.std.proofs.Common.{◌≡◌}
use Rattle.store_sat.specs.RoutePairs.{AllSame, pairs_left}
use Rattle.store_sat.proofs.same_route.are_same_routes.Given as goal

-- the routes are the same where those are that are still to be compared
abbrev pub invariant-loop-pair : goal.invariant-loop-pair
invariant-loop-pair l = AllSame l.pending → l.one ≡ l.other

abbrev pub decreases-loop-pair : goal.decreases-loop-pair
decreases-loop-pair l = pairs_left l.pending
