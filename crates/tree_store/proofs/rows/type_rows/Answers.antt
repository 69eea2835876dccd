use Rattle.std.proofs.Common.{◌+◌, List, sym, subst}
use Rattle.tree_store.specs.declared.rows.Row.{Row}
use Rattle.tree_store.specs.Rows.{AreRows}
use Rattle.tree_store.proofs.RowsLemmas.{AreRows-push}
use Rattle.tree_store.proofs.rows.type_rows.Goals as goal

pub loop-index-preserved : goal.loop-index-preserved
loop-index-preserved c =
    subst (λ (rows : List Row). AreRows c.args.l.now.types (c.loop-index.index + 1) rows) (sym c.in_ok-push.ensures.ok)
    (AreRows-push c.args.l.now.types c.loop-index.index c.loop-index.rows c.in_ok-row_of.field-0 c.loop-index.invariant c.in_ok-row_of.ensures)
