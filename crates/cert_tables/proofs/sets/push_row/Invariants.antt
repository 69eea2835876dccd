use Rattle.std.proofs.Common.{◌≡◌, ◌++◌, take}
use Rattle.cert_tables.specs.Sets.{row_spots}
use Rattle.cert_tables.proofs.sets.push_row.Given as goal

-- with those of the right side so far
abbrev pub invariant-loop-right : goal.invariant-loop-right
invariant-loop-right l = l.spots.items ≡ l.fn.spots.items ++ row_spots l.a l.space l.bit (take l.right-index l.rights) l.left
