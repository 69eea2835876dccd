use Rattle.tree_formula.specs.WellEncoded.{type_id, apart_parts}
use Rattle.tree_formula.proofs.NamedLemmas.{flat-next}
use Rattle.tree_formula.proofs.whole.push_variants.Goals as goal

pub loop-index-preserved : goal.loop-index-preserved
loop-index-preserved c =
    flat-next (apart_parts c.args.next c.args.l.now.types) type_id c.loop-index.index c.args.parts.now.items c.loop-index.parts.items
    c.push_apart.new.parts.items c.loop-index.invariant
    c.in_ok-push_apart.ensures
