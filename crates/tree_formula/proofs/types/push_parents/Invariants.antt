use Rattle.std.proofs.Common.{◌≡◌, ◌++◌, flat_map}
use Rattle.tree_formula.specs.WellEncoded.{named, type_id, places_below}
use Rattle.tree_formula.proofs.types.push_parents.Given as goal

abbrev pub invariant-loop-index : goal.invariant-loop-index
invariant-loop-index l = l.places.items ≡ l.initial.places.items ++ flat_map (places_below l.next l.l.types l.ty l.a) (named type_id l.index)
