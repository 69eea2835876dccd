use Rattle.std.proofs.Common.{◌≡◌, ◌++◌, take}
use Rattle.cert_tables.specs.Sets.{cells_of}
use Rattle.cert_tables.proofs.sets.push_cells.Given as goal

-- those of the left side so far
abbrev pub invariant-loop-left : goal.invariant-loop-left
invariant-loop-left l = l.spots.items ≡ l.fn.spots.items ++ cells_of l.a l.space l.bit (take l.left-index l.lefts) l.rights
