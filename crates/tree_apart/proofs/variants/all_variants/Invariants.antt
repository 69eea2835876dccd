use Rattle.std.proofs.Common.{◌≡◌, flat_map}
use Rattle.tree_formula.specs.WellEncoded.{named, type_id, variants_of}
use Rattle.tree_apart.proofs.variants.all_variants.Given as goal

abbrev pub invariant-loop-index : goal.invariant-loop-index
invariant-loop-index l = l.variants ≡ flat_map (variants_of l.l.types) (named type_id l.index)
