use Rattle.std.proofs.Common.{drop}
use Rattle.pale_tables.proofs.StageLemmas.{VariantsLeft}
use Rattle.pale_tables.proofs.table.add_variants.Given as goal

abbrev pub invariant-loop-name : goal.invariant-loop-name
invariant-loop-name l = VariantsLeft l.initial.table l.table l.ty l.names (drop l.name-index l.names)
