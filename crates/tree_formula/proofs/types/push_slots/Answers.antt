use Rattle.tree_formula.specs.WellEncoded.{var_id, slot_places}
use Rattle.tree_formula.proofs.NamedLemmas.{flat-next}
use Rattle.tree_formula.proofs.types.push_slots.Goals as goal

pub loop-index-preserved : goal.loop-index-preserved
loop-index-preserved c =
    flat-next (slot_places c.args.next c.args.l.now.vars c.args.ty c.args.a) var_id c.loop-index.index c.args.places.now.items
    c.loop-index.places.items c.push_slot.new.places.items c.loop-index.invariant
    c.in_ok-push_slot.ensures
