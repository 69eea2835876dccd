use Rattle.std.proofs.Common.{◌≡◌, ◌++◌, flat_map}
use Rattle.tree_formula.specs.WellEncoded.{named, var_id}
use Rattle.tree_reached.specs.ByField.{ways_of_var}
use Rattle.tree_reached.proofs.ways.push_ways_to_slots.Given as goal

abbrev pub invariant-loop-index : goal.invariant-loop-index
invariant-loop-index l = l.ways.items ≡ l.initial.ways.items ++ flat_map (ways_of_var l.l.vars l.ty) (named var_id l.index)
