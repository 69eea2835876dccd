use Rattle.std.proofs.Common.{◌≡◌, ◌++◌, flat_map}
use Rattle.tree_formula.specs.WellEncoded.{named, variant_in, apart_from_later}
use Rattle.tree_formula.proofs.variants.push_apart.Given as goal

abbrev pub invariant-loop-index : goal.invariant-loop-index
invariant-loop-index l = l.parts.items ≡ l.initial.parts.items ++ flat_map (apart_from_later l.next l.l.types) (named (variant_in l.ty) l.index)
