use Rattle.std.proofs.Common.{List, take, Contains, ◌⊎◌}
use Rattle.std.specs.Prelude.{◌↔◌}
use Rattle.cert_nodes.specs.declared.spots.Spot.{Spot}
use Rattle.cert_tables.specs.Pairs.{spots_of}
use Rattle.cert_tables.specs.Starts.{IsLedWith}
use Rattle.cert_tables.proofs.pairs.add_starts.Given as goal

-- what was there, and where the triple leads to with those so far
abbrev pub invariant-loop-right : goal.invariant-loop-right
invariant-loop-right l =
    (spots : List Spot) → Contains l.starts spots
    ↔ (Contains l.fn.starts spots ⊎ IsLedWith (spots_of l.space l.a l.b l.c) l.left (take l.right-index l.rights) spots)
