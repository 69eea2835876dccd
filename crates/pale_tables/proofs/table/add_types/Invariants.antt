use Rattle.std.proofs.Common.{◌≡◌, ◌++◌, map, drop}
use Rattle.pale_tables.specs.Types.{type_row}
use Rattle.pale_tables.specs.Stages.{named}
use Rattle.pale_tables.proofs.table.add_types.Given as goal

-- the types that are left come behind those that were added
abbrev pub invariant-loop-row : goal.invariant-loop-row
invariant-loop-row l = l.table ++ map named (map type_row (drop l.row-index l.rows)) ≡ map named (map type_row l.rows)
