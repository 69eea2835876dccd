use Rattle.std.proofs.Common.{◌≡◌, ◌++◌, flat_map}
use Rattle.tree_formula.specs.WellEncoded.{named, var_id, slot_places}
use Rattle.tree_formula.proofs.types.push_slots.Given as goal

abbrev pub invariant-loop-index : goal.invariant-loop-index
invariant-loop-index l = l.places.items ≡ l.initial.places.items ++ flat_map (slot_places l.next l.l.vars l.ty l.a) (named var_id l.index)
