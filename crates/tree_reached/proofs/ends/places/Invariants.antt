use Rattle.std.proofs.Common.{◌≡◌, map, take}
use Rattle.tree_reached.specs.ByField.{place_of}
use Rattle.tree_reached.proofs.ends.places.Given as goal

abbrev pub invariant-loop-way : goal.invariant-loop-way
invariant-loop-way l = l.places.items ≡ map (place_of l.fn.next l.l.types l.fn.a) (take l.way-index l.ways)
