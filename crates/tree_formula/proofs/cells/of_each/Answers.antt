use Rattle.std.proofs.Common.{◌++◌, ap, ◌∙◌, [], ◌∷◌}
use Rattle.store_core.specs.declared.ids.VariantId.{VariantId}
use Rattle.tree_formula.specs.WellEncoded.{variant_in, is_of}
use Rattle.tree_formula.proofs.NamedLemmas.{map-next}
use Rattle.tree_formula.proofs.cells.of_each.Goals as goal

pub loop-index-preserved : goal.loop-index-preserved
loop-index-preserved c =
    map-next (λ (v : VariantId). is_of c.args.l.now.types v c.args.a) (variant_in c.args.ty) c.loop-index.index c.loop-index.parts.items
    c.push.new.self.items c.loop-index.invariant
    (c.in_ok-push.ensures.items ∙ ap (λ f. c.loop-index.parts.items ++ f ∷ []) c.is_of.ensures)
