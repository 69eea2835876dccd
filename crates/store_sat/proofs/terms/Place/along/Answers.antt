use Rattle.std.proofs.Common.{◌∙◌, ◌+◌, drop, get_or, sym, ap, add-one, drop-cons}
use Rattle.std.specs.Prelude.{unwrap_or}
use Rattle.std.specs.Option.{option_copied}
use Rattle.store_core.specs.declared.ids.FieldId.{FieldId}
use Rattle.store_logic.specs.Terms.{null, field_of_value, value_along}
use Rattle.store_sat.proofs.terms.Place.along.Goals as goal

abbrev no_field : FieldId
no_field = record { ty = record { 0 = 0 }; index = 0 }

pub loop-field-preserved : goal.loop-field-preserved
loop-field-preserved c =
    let s = c.args.self.now.store.now in
    let fields = c.args.fields.now in
    let i = c.loop-field.field-index in
    let before = unwrap_or (option_copied c.loop-field.value) null in
    ap (λ x. value_along s x (drop (i + 1) fields)) c.field-value.ensures
    ∙ ap (λ n. value_along s (field_of_value s before (get_or fields i no_field)) (drop n fields)) (add-one i)
    ∙ sym (ap (value_along s before) (drop-cons fields i no_field c.loop-field-test.true))
    ∙ c.loop-field.invariant
