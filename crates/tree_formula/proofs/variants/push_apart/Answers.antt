use Rattle.tree_formula.specs.WellEncoded.{variant_in, apart_from_later}
use Rattle.tree_formula.proofs.NamedLemmas.{flat-next}
use Rattle.tree_formula.proofs.variants.push_apart.Goals as goal

pub loop-index-preserved : goal.loop-index-preserved
loop-index-preserved c =
    flat-next (apart_from_later c.args.next c.args.l.now.types) (variant_in c.args.ty) c.loop-index.index c.args.parts.now.items
    c.loop-index.parts.items c.push_later.new.parts.items c.loop-index.invariant
    c.in_ok-push_later.ensures
