use Rattle.std.proofs.Common.{◌+◌, List, sym, subst}
use Rattle.cert_tables.specs.declared.table.SpaceTable.{SpaceTable}
use Rattle.cert_parts.specs.Leading.{AreSpacesOf}
use Rattle.cert_parts.proofs.TableLemmas.{spaces-push}
use Rattle.cert_parts.proofs.table.space_tables.Goals as goal

pub loop-space-preserved : goal.loop-space-preserved
loop-space-preserved c =
    subst (AreSpacesOf (c.loop-space._space + 1) c.args.count c.args.rows.now) (sym c.in_ok-push.ensures.ok)
    (spaces-push c.loop-space._space c.args.count c.args.rows.now c.loop-space.tables c.in_ok-table.table c.loop-space.invariant c.in_ok-table.ensures)
