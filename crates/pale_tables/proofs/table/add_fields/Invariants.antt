use Rattle.std.proofs.Common.{drop, map}
use Rattle.pale_tables.specs.Types.{field_row}
use Rattle.pale_tables.proofs.StageLemmas.{FieldsLeft}
use Rattle.pale_tables.proofs.table.add_fields.Given as goal

abbrev pub invariant-loop-field : goal.invariant-loop-field
invariant-loop-field l = FieldsLeft l.initial.table l.table l.ty (map field_row l.fields) (map field_row (drop l.field-index l.fields))
