use Rattle.std.proofs.Common.{◌≡◌, ◌++◌, map, drop}
use Rattle.pale_tables.specs.Types.{fields_fault, with_fields, field_row, field_entry}
use Rattle.pale_tables.proofs.types.read_fields.Given as goal

-- what came before has no fault, and the fields that are left come behind those that were read
abbrev pub invariant-loop-field : goal.invariant-loop-field
invariant-loop-field l = record {
  faults : fields_fault l.names l.initial.before l.fields ≡ fields_fault l.names l.before (drop l.field-index l.fields);
  rows : map field_row l.rows ++ map (field_entry l.names l.only) (drop l.field-index l.fields)
      ≡ map field_row l.initial.rows ++ map (field_entry l.names l.only) l.fields;
  names : with_fields l.before (drop l.field-index l.fields) ≡ with_fields l.initial.before l.fields;
}
