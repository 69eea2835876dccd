use Rattle.std.proofs.Common.{◌≡◌, true, Some, option_map, sym, ap, ◌∙◌}
use Rattle.store_core.specs.declared.kind.FieldKind.TheVariants as field
use Rattle.store_core.specs.declared.value.Value.TheVariants as value
use Rattle.store_core.specs.Tables.{FieldEntry, field_at, has_field}
use Rattle.witness_store.specs.Reading.{has_track, number_in}
use Rattle.witness_store.proofs.FieldsLemmas.{slot-bool, slot-data}
use Rattle.witness_store.proofs.fields.slot_of.Goals as goal

pub returns-in-Bool : goal.returns-in-Bool
returns-in-Bool c = λ cells x entry are found known same there behind.
    let types = c.args.l.now.types in
    let nodes = c.args.nodes.now in
    let f = c.args.field in
    let has : has_field types c.args.cell.variant f ≡ true =
    ap (λ ts. has_field ts c.args.cell.variant f) (sym c.types.ensures.value) ∙ sym c.has.ensures ∙ c.if-not-has.false in
    let kind : Some field.Bool ≡ option_map (λ (e : FieldEntry). e.kind) (field_at types f) =
    ap (λ k. Some k) (sym c.in-Bool.is) ∙ c.in_ok-kind.ensures ∙ ap (λ ts. option_map (λ (e : FieldEntry). e.kind) (field_at ts f)) c.types-2.ensures.value in
    ap (λ b. Some (value.Bool b)) (c.is_on-truth.ensures ∙ ap (has_track nodes (Some c.args.cell.node)) c.bool_track.ensures)
    ∙ slot-bool types nodes cells c.args.numbers.now are c.args.cell x found known f entry same there has kind

pub returns-in-Data : goal.returns-in-Data
returns-in-Data c = λ cells x entry are found known same there behind.
    let types = c.args.l.now.types in
    let nodes = c.args.nodes.now in
    let f = c.args.field in
    let ty = c.in-Data.field-0 in
    let has : has_field types c.args.cell.variant f ≡ true =
    ap (λ ts. has_field ts c.args.cell.variant f) (sym c.types.ensures.value) ∙ sym c.has.ensures ∙ c.if-not-has.false in
    let kind : Some (field.Data ty) ≡ option_map (λ (e : FieldEntry). e.kind) (field_at types f) =
    ap (λ k. Some k) (sym c.in-Data.is) ∙ c.in_ok-kind.ensures ∙ ap (λ ts. option_map (λ (e : FieldEntry). e.kind) (field_at ts f)) c.types-2.ensures.value in
    ap (λ o. Some (value.Cell o)) (c.number_at.ensures ∙ ap (number_in c.args.numbers.now) c.left_of-child.ensures)
    ∙ slot-data types nodes cells c.args.numbers.now are c.args.cell x found known f entry same there ty c.args.place has kind behind
