use Rattle.std.proofs.Common.{◌≡◌, ◌++◌, flat_map}
use Rattle.tree_formula.specs.WellEncoded.{named, type_id, apart_parts}
use Rattle.tree_formula.proofs.whole.push_variants.Given as goal

abbrev pub invariant-loop-index : goal.invariant-loop-index
invariant-loop-index l = l.parts.items ≡ l.initial.parts.items ++ flat_map (apart_parts l.next l.l.types) (named type_id l.index)
