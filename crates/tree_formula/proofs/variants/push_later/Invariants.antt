use Rattle.std.proofs.Common.{◌≡◌, ◌++◌, flat_map}
use Rattle.tree_formula.specs.WellEncoded.{named, variant_in, apart_pair}
use Rattle.tree_formula.proofs.variants.push_later.Given as goal

abbrev pub invariant-loop-index : goal.invariant-loop-index
invariant-loop-index l = l.parts.items ≡ l.initial.parts.items ++ flat_map (apart_pair l.next l.l.types l.v) (named (variant_in l.v.ty) l.index)
