use Rattle.std.proofs.Common.{◌≡◌, map}
use Rattle.store_core.specs.declared.ids.VariantId.{VariantId}
use Rattle.tree_formula.specs.WellEncoded.{named, variant_in}
use Rattle.graph_view.specs.Live.{lives}
use Rattle.graph_view.specs.Sights.{sight_of}
use Rattle.graph_cells.proofs.live.of_each.Given as goal

abbrev pub invariant-loop-index : goal.invariant-loop-index
invariant-loop-index l = l.parts.items ≡ map (λ (v : VariantId). lives l.l.types (sight_of l.l.vars l.view) l.fn.next v l.fn.a) (named (variant_in
    l.fn.ty) l.index)
