use Rattle.cert_parts.specs.Leading.{AreSpacesOf}
use Rattle.cert_parts.proofs.table.space_tables.Given as goal

abbrev pub invariant-loop-space : goal.invariant-loop-space
invariant-loop-space l = AreSpacesOf l._space l.count l.rows l.tables
