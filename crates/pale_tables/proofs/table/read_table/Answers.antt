use Rattle.std.proofs.Common.{map, ap, ◌∙◌}
use Rattle.pale_tables.specs.Types.{type_row}
use Rattle.pale_tables.proofs.TableLemmas.{rows_are}
use Rattle.pale_tables.proofs.table.read_table.Goals as goal

pub build_table-requires : goal.build_table-requires
build_table-requires c =
    rows_are c.args.types.now (λ t. t.now) c.args.names.now (map type_row c.as_slice.result.now) c.requires.names c.requires.new
    c.in_ok-rows.ensures.met (ap (map type_row) c.as_slice.ensures ∙ c.in_ok-rows.ensures.rows)
