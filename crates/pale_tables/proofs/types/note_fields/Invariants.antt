use Rattle.std.proofs.Common.{◌≡◌, drop}
use Rattle.pale_tables.specs.Types.{noted}
use Rattle.pale_tables.proofs.types.note_fields.Given as goal

abbrev pub invariant-loop-field : goal.invariant-loop-field
invariant-loop-field l = noted (drop l.field-index l.fields) l.names ≡ noted l.fields l.initial.names
