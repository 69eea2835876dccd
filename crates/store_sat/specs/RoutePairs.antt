-- Routes that are compared in pairs.
use Rattle.std.specs.Prelude.{◌≡◌, ◌+◌, ℕ, List, sum_by}
use Rattle.std.specs.List.{AllByRecursion}
use Rattle.routing_expr.specs.Machines.{part_count}
use Rattle.store_sat.specs.declared.same_route.RoutePair.{RoutePair}

-- the routes of each pair are the same
abbrev pub AllSame : List RoutePair → Type 0
AllSame pairs = AllByRecursion (λ pair. pair.one.now ≡ pair.other.now) pairs

-- how many pairs are still to be compared, those of their parts included
abbrev pub pairs_left : List RoutePair → ℕ
pairs_left pairs = sum_by (λ pair. part_count pair.one.now + 1) pairs
