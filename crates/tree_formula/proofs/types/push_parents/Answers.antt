use Rattle.tree_formula.specs.WellEncoded.{type_id, places_below}
use Rattle.tree_formula.proofs.NamedLemmas.{flat-next}
use Rattle.tree_formula.proofs.types.push_parents.Goals as goal

pub loop-index-preserved : goal.loop-index-preserved
loop-index-preserved c =
    flat-next (places_below c.args.next c.args.l.now.types c.args.ty c.args.a) type_id c.loop-index.index c.args.places.now.items
    c.loop-index.places.items c.push_children.new.places.items c.loop-index.invariant
    c.in_ok-push_children.ensures
