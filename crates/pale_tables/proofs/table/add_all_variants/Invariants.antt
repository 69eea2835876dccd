use Rattle.std.proofs.Common.{◌≡◌, map}
use Rattle.pale_tables.specs.Types.{type_row}
use Rattle.pale_tables.specs.Stages.{named, bare}
use Rattle.pale_tables.proofs.StageLemmas.{stage}
use Rattle.pale_tables.proofs.table.add_all_variants.Given as goal

-- the types before this one have their variants
abbrev pub invariant-loop-number : goal.invariant-loop-number
invariant-loop-number l = l.table ≡ stage bare named (map type_row l.rows) l.number
