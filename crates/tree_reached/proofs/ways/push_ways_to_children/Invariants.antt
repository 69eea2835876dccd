use Rattle.std.proofs.Common.{◌≡◌, ◌++◌, flat_map}
use Rattle.tree_formula.specs.WellEncoded.{named, type_id}
use Rattle.tree_reached.specs.ByField.{ways_from}
use Rattle.tree_reached.proofs.ways.push_ways_to_children.Given as goal

abbrev pub invariant-loop-index : goal.invariant-loop-index
invariant-loop-index l = l.ways.items ≡ l.initial.ways.items ++ flat_map (ways_from l.l.types l.ty) (named type_id l.index)
