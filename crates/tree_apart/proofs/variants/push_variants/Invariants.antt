use Rattle.std.proofs.Common.{◌≡◌, ◌++◌}
use Rattle.tree_formula.specs.WellEncoded.{named, variant_in}
use Rattle.tree_apart.proofs.variants.push_variants.Given as goal

abbrev pub invariant-loop-index : goal.invariant-loop-index
invariant-loop-index l = l.variants ≡ l.initial.variants ++ named (variant_in l.ty) l.index
