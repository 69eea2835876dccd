use Rattle.tree_formula.specs.WellEncoded.{field_in, child_places}
use Rattle.tree_formula.proofs.NamedLemmas.{flat-next}
use Rattle.tree_formula.proofs.types.push_children.Goals as goal

pub loop-index-preserved : goal.loop-index-preserved
loop-index-preserved c =
    flat-next (child_places c.args.next c.args.l.now.types c.args.ty c.args.a) (field_in c.args.parent) c.loop-index.index c.args.places.now.items
    c.loop-index.places.items c.push_child.new.places.items c.loop-index.invariant
    c.in_ok-push_child.ensures
