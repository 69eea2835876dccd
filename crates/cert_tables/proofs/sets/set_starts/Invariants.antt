use Rattle.std.proofs.Common.{map, take}
use Rattle.cert_tables.specs.Sets.{key_of, set_spots_of}
use Rattle.cert_tables.specs.Starts.{AreLedBy}
use Rattle.cert_tables.proofs.sets.set_starts.Given as goal

-- where the classes so far lead to with all of the right side
abbrev pub invariant-loop-left : goal.invariant-loop-left
invariant-loop-left l = AreLedBy (set_spots_of l.space l.a l.c) (map key_of (take l.left-index l.lefts)) (map key_of l.rights) l.starts
