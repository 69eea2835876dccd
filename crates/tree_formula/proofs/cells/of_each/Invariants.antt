use Rattle.std.proofs.Common.{◌≡◌, map}
use Rattle.store_core.specs.declared.ids.VariantId.{VariantId}
use Rattle.tree_formula.specs.WellEncoded.{named, variant_in, is_of}
use Rattle.tree_formula.proofs.cells.of_each.Given as goal

abbrev pub invariant-loop-index : goal.invariant-loop-index
invariant-loop-index l = l.parts.items ≡ map (λ (v : VariantId). is_of l.l.types v l.a) (named (variant_in l.ty) l.index)
