use Rattle.tree_formula.specs.WellEncoded.{type_id}
use Rattle.tree_formula.proofs.NamedLemmas.{flat-next}
use Rattle.tree_reached.specs.ByField.{ways_from}
use Rattle.tree_reached.proofs.ways.push_ways_to_children.Goals as goal

pub loop-index-preserved : goal.loop-index-preserved
loop-index-preserved c =
    flat-next (ways_from c.args.l.now.types c.args.ty) type_id c.loop-index.index c.args.ways.now.items c.loop-index.ways.items
    c.push_ways_from.new.ways.items c.loop-index.invariant c.in_ok-push_ways_from.ensures
