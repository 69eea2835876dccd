use Rattle.tree_formula.specs.WellEncoded.{field_in, field_part}
use Rattle.tree_formula.proofs.NamedLemmas.{flat-next}
use Rattle.tree_formula.proofs.types.push_fields.Goals as goal

pub loop-index-preserved : goal.loop-index-preserved
loop-index-preserved c =
    flat-next (field_part c.args.next c.args.l.now.types) (field_in c.args.ty) c.loop-index.index c.args.parts.now.items c.loop-index.parts.items
    c.push_field.new.parts.items c.loop-index.invariant
    c.in_ok-push_field.ensures
