use Rattle.std.proofs.Common.{◌≡◌, ◌++◌, flat_map}
use Rattle.tree_formula.specs.WellEncoded.{named, field_in}
use Rattle.tree_reached.specs.ByField.{ways_of_field}
use Rattle.tree_reached.proofs.ways.push_ways_from.Given as goal

abbrev pub invariant-loop-index : goal.invariant-loop-index
invariant-loop-index l = l.ways.items ≡ l.initial.ways.items ++ flat_map (ways_of_field l.l.types l.ty) (named (field_in l.parent) l.index)
