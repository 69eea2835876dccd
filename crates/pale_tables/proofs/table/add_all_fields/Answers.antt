use Rattle.std.proofs.Common.{◌≡◌, ℕ, suc, ◌+◌, ◌<◌, ◌≤◌, ◌++◌, List, [], ◌∷◌, Some, refl, length, map, slice_get, subst, sym, ap, ◌∙◌, arith}
use Rattle.std.proofs.lemmas.List.{length-map}
use Rattle.std.specs.List.{AllByRecursion}
use Rattle.store_core.specs.declared.ids.TypeId.{TypeId}
use Rattle.store_core.specs.Tables.{TypeEntry, FieldEntry, IsTypeEntry, IsFieldEntry, AreDistinct, fields_of, field_names, variant_count, with_type}
use Rattle.store_core.proofs.Bodies.{AllByRecursion-at}
use Rattle.pale_tables.specs.Types.{field_row, type_row}
use Rattle.pale_tables.specs.Stages.{bare}
use Rattle.pale_tables.proofs.StageLemmas.{stage, stage-zero, stage-all, stage-length, stage-next, stage-of, row-at, fields-there}
use Rattle.pale_tables.proofs.table.add_all_fields.Goals as goal

map-same : (types : List TypeEntry) → map (λ t. t) types ≡ types
map-same [] = refl
map-same (t ∷ types) = ap (λ more. t ∷ more) (map-same types)

pub loop-number-init : goal.loop-number-init
loop-number-init c = c.requires.types ∙ sym (stage-zero (λ t. t) bare (map type_row c.args.rows.now))

pub add_fields-requires-clause-known : goal.add_fields-requires-clause-known
add_fields-requires-clause-known c =
    omega (
      arith,
      c.loop-number-test.true,
      stage-length (λ t. t) bare (map type_row c.args.rows.now) c.loop-number.number,
      length-map c.args.rows.now type_row,
      ap length c.loop-number.invariant,
    )

-- the type has no field yet, and its row has these
fields-then : (P : List FieldEntry → Type 0) (types table : List TypeEntry) (i : ℕ) (t : TypeEntry) (slice : List FieldEntry) →
    table ≡ stage (λ u. u) bare types i → slice_get types i ≡ Some t → slice ≡ t.fields → P t.fields → P (fields_of table (record { 0 = i }) ++ slice)
fields-then P types table i t slice is at same has =
    subst (λ xs. P (xs ++ slice)) (sym (ap (λ ts. fields_of ts (record { 0 = i })) is ∙ stage-of (λ u. u.fields) (λ u. u) bare types i t at))
    (subst P (sym same) has)

pub add_fields-requires-clause-new : goal.add_fields-requires-clause-new
add_fields-requires-clause-new c =
    let rows = c.args.rows.now in
    let i = c.loop-number.number in
    let t : TypeEntry = type_row c.index-rows-number.result in
    let at = row-at type_row rows i c.index-rows-number.result c.loop-number-test.true c.index-rows-number.is in
    fields-then (λ xs. AreDistinct (field_names xs)) (map type_row rows) c.loop-number.table i t (map field_row c.as_slice.result.now)
    c.loop-number.invariant at (ap (map field_row) c.as_slice.ensures)
    (AllByRecursion-at (IsTypeEntry (map type_row rows)) (map type_row rows) i t c.requires.rows.each at).names

pub add_fields-requires-clause-few : goal.add_fields-requires-clause-few
add_fields-requires-clause-few c =
    let rows = c.args.rows.now in
    let i = c.loop-number.number in
    let t : TypeEntry = type_row c.index-rows-number.result in
    let at = row-at type_row rows i c.index-rows-number.result c.loop-number-test.true c.index-rows-number.is in
    fields-then (λ xs. length xs ≤ 32) (map type_row rows) c.loop-number.table i t (map field_row c.as_slice.result.now)
    c.loop-number.invariant at (ap (map field_row) c.as_slice.ensures)
    (AllByRecursion-at (IsTypeEntry (map type_row rows)) (map type_row rows) i t c.requires.rows.each at).few_fields

pub add_fields-requires-clause-each : goal.add_fields-requires-clause-each
add_fields-requires-clause-each c =
    let rows = c.args.rows.now in
    let i = c.loop-number.number in
    let row = c.index-rows-number.result in
    let at = row-at type_row rows i row c.loop-number-test.true c.index-rows-number.is in
    subst (λ table. AllByRecursion (IsFieldEntry table (variant_count table (record { 0 = i }))) (map field_row c.as_slice.result.now))
    (sym c.loop-number.invariant)
    (subst (λ fs. AllByRecursion (IsFieldEntry (stage (λ t. t) bare (map type_row rows) i)
    (variant_count (stage (λ t. t) bare (map type_row rows) i) (record { 0 = i }))) fs) (sym (ap (map field_row) c.as_slice.ensures))
    (fields-there (map type_row rows) i (type_row row) (map field_row row.fields) at
    (AllByRecursion-at (IsTypeEntry (map type_row rows)) (map type_row rows) i (type_row row) c.requires.rows.each at).fields))

pub loop-number-preserved : goal.loop-number-preserved
loop-number-preserved c =
    let rows = c.args.rows.now in
    let i = c.loop-number.number in
    let row = c.index-rows-number.result in
    let change : TypeEntry → TypeEntry = λ t. record t { fields = t.fields ++ map field_row c.as_slice.result.now } in
    let next : suc i ≡ i + 1 = omega arith in
    c.in_ok-add_fields.ensures
    ∙ ap (λ table. with_type table (record { 0 = i }) change) c.loop-number.invariant
    ∙ stage-next (λ t. t) bare change (map type_row rows) i (type_row row)
    (row-at type_row rows i row c.loop-number-test.true c.index-rows-number.is)
    (ap (λ fs. record { name = row.name; variants = row.variants; fields = map field_row fs }) c.as_slice.ensures)
    ∙ ap (stage (λ t. t) bare (map type_row rows)) next

pub returns : goal.returns
returns c =
    let rows = c.args.rows.now in
    let end : c.loop-number.number ≡ length (map type_row rows) =
    omega (arith, c.loop-number-test.false, c.loop-number.auto.number-end, length-map rows type_row) in
    c.loop-number.invariant ∙ ap (stage (λ t. t) bare (map type_row rows)) end ∙ stage-all (λ t. t) bare (map type_row rows)
    ∙ map-same (map type_row rows)
