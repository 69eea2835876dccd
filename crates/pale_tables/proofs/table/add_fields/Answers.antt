use Rattle.std.proofs.Common.{◌≡◌, ℕ, ◌+◌, ◌<◌, ◌≤◌, List, ◌∷◌, ◌++◌, [], None, length, map, drop, get_or, subst, sym, ap, ◌∙◌}
use Rattle.std.proofs.lemmas.List.{drop_all}
use Rattle.store_core.specs.declared.ids.TypeId.{TypeId}
use Rattle.store_core.specs.Tables.{TypeEntry, KnowsOwner, KnowsKind, AreDistinct, place_of, field_names, fields_of, owner_type, add_field}
use Rattle.pale_tables.specs.declared.types.FieldRow.{FieldRow}
use Rattle.pale_tables.specs.Types.{field_row}
use Rattle.pale_tables.specs.Stages.{owner_in}
use Rattle.pale_tables.proofs.StageLemmas.{FieldsLeft, IsAddable, fields-start, fields-next, fields-end, field-addable, item-next}
use Rattle.pale_tables.proofs.table.add_fields.Goals as goal

pub loop-field-init : goal.loop-field-init
loop-field-init c = fields-start c.args.table.now c.args.ty (map field_row c.args.fields.now) c.requires.known c.requires.each

-- what is asked of the next field
addable : (start table : List TypeEntry) (ty : TypeId) (fields : List FieldRow) (i : ℕ) (f : FieldRow) → i < length fields → f ≡ get_or fields i f →
    FieldsLeft start table ty (map field_row fields) (map field_row (drop i fields)) →
    AreDistinct (field_names (fields_of start ty ++ map field_row fields)) → length (fields_of start ty ++ map field_row fields) ≤ 32 →
    IsAddable table ty (field_row f)
addable start table ty fields i f low is rest distinct few =
    field-addable start table ty (map field_row fields) (map field_row (drop (i + 1) fields)) (field_row f)
    (subst (λ l. FieldsLeft start table ty (map field_row fields) (map field_row l)) (item-next fields i f low is) rest) distinct few

pub add_field-requires-clause-owner : goal.add_field-requires-clause-owner
add_field-requires-clause-owner c =
    subst (KnowsOwner c.loop-field.table) (sym c.owner_of.ensures)
    (addable c.args.table.now c.loop-field.table c.args.ty c.args.fields.now c.loop-field.field-index c.field-item.result c.loop-field-test.true
    c.field-item.is c.loop-field.invariant c.requires.new c.requires.few).owner

pub add_field-requires-clause-kind : goal.add_field-requires-clause-kind
add_field-requires-clause-kind c =
    subst (KnowsKind c.loop-field.table) (sym c.in_ok-kind.ensures)
    (addable c.args.table.now c.loop-field.table c.args.ty c.args.fields.now c.loop-field.field-index c.field-item.result c.loop-field-test.true
    c.field-item.is c.loop-field.invariant c.requires.new c.requires.few).kind

pub add_field-requires-clause-new : goal.add_field-requires-clause-new
add_field-requires-clause-new c =
    subst (λ name. place_of name (field_names (fields_of c.loop-field.table (owner_type c.owner_of.result))) ≡ None) (sym c.as_slice.ensures)
    (subst (λ o. place_of c.field-item.result.name (field_names (fields_of c.loop-field.table (owner_type o))) ≡ None) (sym c.owner_of.ensures)
    (addable c.args.table.now c.loop-field.table c.args.ty c.args.fields.now c.loop-field.field-index c.field-item.result c.loop-field-test.true
    c.field-item.is c.loop-field.invariant c.requires.new c.requires.few).new)

pub add_field-requires-clause-room : goal.add_field-requires-clause-room
add_field-requires-clause-room c =
    subst (λ o. length (fields_of c.loop-field.table (owner_type o)) < 32) (sym c.owner_of.ensures)
    (addable c.args.table.now c.loop-field.table c.args.ty c.args.fields.now c.loop-field.field-index c.field-item.result c.loop-field-test.true
    c.field-item.is c.loop-field.invariant c.requires.new c.requires.few).room

pub loop-field-preserved : goal.loop-field-preserved
loop-field-preserved c =
    let fields = c.args.fields.now in
    let i = c.loop-field.field-index in
    let f = c.field-item.result in
    let table = c.loop-field.table in
    let next : drop i fields ≡ f ∷ drop (i + 1) fields = item-next fields i f c.loop-field-test.true c.field-item.is in
    subst (λ after. FieldsLeft c.args.table.now after c.args.ty (map field_row fields) (map field_row (drop (i + 1) fields)))
    (sym (c.in_ok-_field.ensures.added
    ∙ ap (λ o. add_field table o c.as_slice.result.now c.in_ok-kind.kind) c.owner_of.ensures
    ∙ ap (λ name. add_field table (owner_in c.args.ty f.only) name c.in_ok-kind.kind) c.as_slice.ensures
    ∙ ap (add_field table (owner_in c.args.ty f.only) f.name) c.in_ok-kind.ensures))
    (fields-next c.args.table.now table c.args.ty (map field_row fields) (map field_row (drop (i + 1) fields)) (field_row f)
    (subst (λ l. FieldsLeft c.args.table.now table c.args.ty (map field_row fields) (map field_row l)) next c.loop-field.invariant))

pub returns : goal.returns
returns c =
    fields-end c.args.table.now c.loop-field.table c.args.ty (map field_row c.args.fields.now)
    (subst (λ l. FieldsLeft c.args.table.now c.loop-field.table c.args.ty (map field_row c.args.fields.now) (map field_row l))
    (drop_all c.loop-field.field-index c.args.fields.now c.loop-field-test.false) c.loop-field.invariant)
