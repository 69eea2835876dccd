use Rattle.std.proofs.Common.{◌≡◌, map}
use Rattle.pale_tables.specs.Types.{type_row}
use Rattle.pale_tables.specs.Stages.{bare}
use Rattle.pale_tables.proofs.StageLemmas.{stage}
use Rattle.pale_tables.proofs.table.add_all_fields.Given as goal

-- the types before this one are whole
abbrev pub invariant-loop-number : goal.invariant-loop-number
invariant-loop-number l = l.table ≡ stage (λ t. t) bare (map type_row l.rows) l.number
