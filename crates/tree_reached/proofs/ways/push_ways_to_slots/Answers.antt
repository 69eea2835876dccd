use Rattle.tree_formula.specs.WellEncoded.{var_id}
use Rattle.tree_formula.proofs.NamedLemmas.{flat-next}
use Rattle.tree_reached.specs.ByField.{ways_of_var}
use Rattle.tree_reached.proofs.ways.push_ways_to_slots.Goals as goal

pub loop-index-preserved : goal.loop-index-preserved
loop-index-preserved c =
    flat-next (ways_of_var c.args.l.now.vars c.args.ty) var_id c.loop-index.index c.args.ways.now.items c.loop-index.ways.items
    c.push_way_to_slot.new.ways.items c.loop-index.invariant c.in_ok-push_way_to_slot.ensures
