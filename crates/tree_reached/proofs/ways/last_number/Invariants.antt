use Rattle.std.proofs.Common.{◌≡◌, take}
use Rattle.tree_reached.specs.ByField.{last_number}
use Rattle.tree_reached.proofs.ways.last_number.Given as goal

abbrev pub invariant-loop-way : goal.invariant-loop-way
invariant-loop-way l = l.last ≡ last_number (take l.way-index l.ways)
