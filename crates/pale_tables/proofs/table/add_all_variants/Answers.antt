use Rattle.std.proofs.Common.{◌≡◌, ℕ, suc, ◌+◌, ◌<◌, ◌≤◌, ◌++◌, List, [], Some, length, map, slice_get, subst, sym, ap, ◌∙◌, arith}
use Rattle.std.proofs.lemmas.List.{length-map}
use Rattle.store_core.specs.declared.ids.TypeId.{TypeId}
use Rattle.store_core.specs.Tables.{TypeEntry, IsTypeEntry, AreDistinct, variants_of, with_type}
use Rattle.store_core.proofs.Bodies.{AllByRecursion-at}
use Rattle.pale_tables.specs.Types.{type_row}
use Rattle.pale_tables.specs.Stages.{named, bare}
use Rattle.pale_tables.proofs.StageLemmas.{stage, stage-zero, stage-all, stage-length, stage-next, stage-of, row-at}
use Rattle.pale_tables.proofs.table.add_all_variants.Goals as goal

pub loop-number-init : goal.loop-number-init
loop-number-init c = c.requires.types ∙ sym (stage-zero bare named (map type_row c.args.rows.now))

pub add_variants-requires-clause-known : goal.add_variants-requires-clause-known
add_variants-requires-clause-known c =
    omega (
      arith,
      c.loop-number-test.true,
      stage-length bare named (map type_row c.args.rows.now) c.loop-number.number,
      length-map c.args.rows.now type_row,
      ap length c.loop-number.invariant,
    )

-- the type has no variant yet, and its row has these
variants-then : (P : List (List ℕ) → Type 0) (types table : List TypeEntry) (i : ℕ) (t : TypeEntry) (slice : List (List ℕ)) →
    table ≡ stage bare named types i → slice_get types i ≡ Some t → slice ≡ t.variants → P t.variants → P (variants_of table (record { 0 = i }) ++ slice)
variants-then P types table i t slice is at same has =
    subst (λ xs. P (xs ++ slice)) (sym (ap (λ ts. variants_of ts (record { 0 = i })) is ∙ stage-of (λ u. u.variants) bare named types i t at))
    (subst P (sym same) has)

pub add_variants-requires-clause-new : goal.add_variants-requires-clause-new
add_variants-requires-clause-new c =
    let rows = c.args.rows.now in
    let i = c.loop-number.number in
    let t : TypeEntry = type_row c.index-rows-number.result in
    let at = row-at type_row rows i c.index-rows-number.result c.loop-number-test.true c.index-rows-number.is in
    variants-then AreDistinct (map type_row rows) c.loop-number.table i t c.as_slice.result.now c.loop-number.invariant at c.as_slice.ensures
    (AllByRecursion-at (IsTypeEntry (map type_row rows)) (map type_row rows) i t c.requires.rows.each at).variants

pub add_variants-requires-clause-few : goal.add_variants-requires-clause-few
add_variants-requires-clause-few c =
    let rows = c.args.rows.now in
    let i = c.loop-number.number in
    let t : TypeEntry = type_row c.index-rows-number.result in
    let at = row-at type_row rows i c.index-rows-number.result c.loop-number-test.true c.index-rows-number.is in
    variants-then (λ xs. length xs ≤ 16) (map type_row rows) c.loop-number.table i t c.as_slice.result.now c.loop-number.invariant at c.as_slice.ensures
    (AllByRecursion-at (IsTypeEntry (map type_row rows)) (map type_row rows) i t c.requires.rows.each at).few_variants

pub loop-number-preserved : goal.loop-number-preserved
loop-number-preserved c =
    let rows = c.args.rows.now in
    let i = c.loop-number.number in
    let row = c.index-rows-number.result in
    let change : TypeEntry → TypeEntry = λ t. record t { variants = t.variants ++ c.as_slice.result.now } in
    let next : suc i ≡ i + 1 = omega arith in
    c.in_ok-add_variants.ensures
    ∙ ap (λ table. with_type table (record { 0 = i }) change) c.loop-number.invariant
    ∙ stage-next bare named change (map type_row rows) i (type_row row)
    (row-at type_row rows i row c.loop-number-test.true c.index-rows-number.is)
    (ap (λ vs. record { name = row.name; variants = vs; fields = [] }) c.as_slice.ensures)
    ∙ ap (stage bare named (map type_row rows)) next

pub returns : goal.returns
returns c =
    let rows = c.args.rows.now in
    let end : c.loop-number.number ≡ length (map type_row rows) =
    omega (arith, c.loop-number-test.false, c.loop-number.auto.number-end, length-map rows type_row) in
    c.loop-number.invariant ∙ ap (stage bare named (map type_row rows)) end ∙ stage-all bare named (map type_row rows)
