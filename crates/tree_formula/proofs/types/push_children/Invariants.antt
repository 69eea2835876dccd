use Rattle.std.proofs.Common.{◌≡◌, ◌++◌, flat_map}
use Rattle.tree_formula.specs.WellEncoded.{named, field_in, child_places}
use Rattle.tree_formula.proofs.types.push_children.Given as goal

abbrev pub invariant-loop-index : goal.invariant-loop-index
invariant-loop-index l = l.places.items ≡ l.initial.places.items ++ flat_map (child_places l.next l.l.types l.ty l.a) (named (field_in l.parent) l.index)
