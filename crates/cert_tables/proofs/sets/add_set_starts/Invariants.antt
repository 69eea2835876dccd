use Rattle.std.proofs.Common.{List, map, take, Contains, ◌⊎◌}
use Rattle.std.specs.Prelude.{◌↔◌}
use Rattle.cert_nodes.specs.declared.spots.Spot.{Spot}
use Rattle.cert_tables.specs.Sets.{key_of, set_spots_of}
use Rattle.cert_tables.specs.Starts.{IsLedWith}
use Rattle.cert_tables.proofs.sets.add_set_starts.Given as goal

-- what was there, and where the set's classes lead to with those so far
abbrev pub invariant-loop-right : goal.invariant-loop-right
invariant-loop-right l =
    (spots : List Spot) → Contains l.starts spots
    ↔ (Contains l.fn.starts spots ⊎ IsLedWith (set_spots_of l.space l.a l.c) (key_of l.left) (map key_of (take l.right-index l.rights)) spots)
