use Rattle.std.proofs.Common.{◌≡◌, ◌∙◌, ◌++◌, ap, arith, sym, Some}
use Rattle.std.specs.Option.{option_map}
use Rattle.std.specs.List.{zip}
use Rattle.store_core.specs.Tables.{fields_of}
use Rattle.store_text.specs.StoreText.{slot_text}
use Rattle.store_core.proofs.Adding.{at_known}
use Rattle.store_text.proofs.Writing.{flat_map_next, flat_map_all, slice_get-zip, zip_within}
use Rattle.store_text.proofs.writer.push_fields.Goals as goal

-- the next text is that of the field at the index
pub loop-index-preserved : goal.loop-index-preserved
loop-index-preserved c =
    let fields = fields_of c.args.types.now c.args.ty in
    let name = c.in-Some-Some.name.now in
    let slot = c.in-Some-Some.slot.now in
    let known = at_known fields c.loop-index.index (omega (arith, c.loop-index-test.true, c.fields-index-end.ensures)) in
    let named : name ≡ known.0.name = let e : Some name ≡ Some known.0.name = c.in-Some-Some.ensures ∙ ap (option_map (λ f. f.name)) known.1 in cc in
    c.in_ok-push_field.ensures
    ∙ (λ i. c.loop-index.invariant i ++ slot_text (named i) slot)
    ∙ flat_map_next (λ slot. slot_text slot.0.name slot.1) c.args.text.now.items (zip fields c.args.slots.now) c.loop-index.index (known.0, slot)
    (slice_get-zip fields c.args.slots.now c.loop-index.index known.0 slot known.1 (sym c.in-Some-Some.ensures'))

pub returns : goal.returns
returns c =
    let fields = fields_of c.args.types.now c.args.ty in
    c.loop-index.invariant
    ∙ flat_map_all (λ slot. slot_text slot.0.name slot.1) c.args.text.now.items (zip fields c.args.slots.now) c.loop-index.index
    (zip_within fields c.args.slots.now c.loop-index.index (omega (arith, c.loop-index-test.false, c.fields-index-end.ensures)))
