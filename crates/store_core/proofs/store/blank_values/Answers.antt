use Rattle.std.proofs.Common.{◌∙◌, ◌++◌, ◌∷◌, [], ap, arith}
use Rattle.std.specs.Option.{option_and_then}
use Rattle.store_core.specs.Tables.{fields_of}
use Rattle.store_core.specs.Stores.{blank_slot}
use Rattle.store_core.proofs.Adding.{at_known}
use Rattle.store_core.proofs.Steps.{map_next}
use Rattle.store_core.proofs.store.blank_values.Goals as goal

-- the next field's value is that of the field at the index
pub loop-index-preserved : goal.loop-index-preserved
loop-index-preserved c =
    let fields = fields_of c.args.types.now c.args.v.ty in
    let known = at_known fields c.loop-index.index (omega (arith, c.loop-index-test.true, c.fields-index-end.ensures)) in
    c.in_ok-push.ensures.ok
    ∙ (λ i. c.loop-index.invariant i ++ (c.blank_in.ensures ∙ ap (option_and_then (blank_slot c.args.v.index)) known.1) i ∷ [])
    ∙ map_next (blank_slot c.args.v.index) fields c.loop-index.index known.0 known.1
