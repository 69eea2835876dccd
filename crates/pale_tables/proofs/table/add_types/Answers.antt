use Rattle.std.proofs.Common.{◌≡◌, ◌+◌, ◌∷◌, ◌++◌, None, drop, map, subst, sym, ap, ◌∙◌}
use Rattle.store_core.specs.Tables.{type_named}
use Rattle.pale_tables.specs.Types.{type_row}
use Rattle.pale_tables.specs.Stages.{named}
use Rattle.pale_tables.proofs.StageLemmas.{item-next, type-new}
use Rattle.pale_tables.proofs.table.add_types.Goals as goal

pub add_type-requires-clause-new : goal.add_type-requires-clause-new
add_type-requires-clause-new c =
    let rows = c.args.rows.now in
    let i = c.loop-row.row-index in
    let row = c.row-item.result in
    let next : drop i rows ≡ row ∷ drop (i + 1) rows = item-next rows i row c.loop-row-test.true c.row-item.is in
    subst (λ name. type_named c.loop-row.table name ≡ None) (sym c.as_slice.ensures)
    (type-new c.loop-row.table (map type_row rows) (type_row row) (map type_row (drop (i + 1) rows))
    (sym (ap (λ l. c.loop-row.table ++ map named (map type_row l)) next) ∙ c.loop-row.invariant) c.requires.rows.names)
