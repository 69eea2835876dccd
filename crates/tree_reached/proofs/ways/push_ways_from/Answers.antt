use Rattle.tree_formula.specs.WellEncoded.{field_in}
use Rattle.tree_formula.proofs.NamedLemmas.{flat-next}
use Rattle.tree_reached.specs.ByField.{ways_of_field}
use Rattle.tree_reached.proofs.ways.push_ways_from.Goals as goal

pub loop-index-preserved : goal.loop-index-preserved
loop-index-preserved c =
    flat-next (ways_of_field c.args.l.now.types c.args.ty) (field_in c.args.parent) c.loop-index.index c.args.ways.now.items c.loop-index.ways.items
    c.push_way_to_child.new.ways.items c.loop-index.invariant c.in_ok-push_way_to_child.ensures
