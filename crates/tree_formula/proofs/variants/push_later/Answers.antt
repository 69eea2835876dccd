use Rattle.tree_formula.specs.WellEncoded.{variant_in, apart_pair}
use Rattle.tree_formula.proofs.NamedLemmas.{flat-next}
use Rattle.tree_formula.proofs.variants.push_later.Goals as goal

pub loop-index-preserved : goal.loop-index-preserved
loop-index-preserved c =
    flat-next (apart_pair c.args.next c.args.l.now.types c.args.v) (variant_in c.args.v.ty) c.loop-index.index c.args.parts.now.items
    c.loop-index.parts.items c.push_pair.new.parts.items c.loop-index.invariant
    c.in_ok-push_pair.ensures
