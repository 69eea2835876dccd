use Rattle.std.proofs.Common.{◌∙◌, List, ap, length, arith}
use Rattle.store_core.specs.Tables.{TypeEntry, fields_of}
use Rattle.tree_encode.specs.declared.counting.Counted.TheVariants.{Children}
use Rattle.tree_encode.specs.Counting.{is_counted}
use Rattle.tree_store.specs.Rows.{field_in}
use Rattle.tree_store.proofs.RowsLemmas.{numbered-pushed, numbered-kept}
use Rattle.tree_store.proofs.rows.children_of.Goals as goal
use Rattle.tree_store.proofs.rows.children_of.Goals.{then-is_some+in_ok-push, else-is_some}

pub loop-index-preserved : goal.loop-index-preserved
loop-index-preserved c =
    elim c.if-is_some.branch [
      | then-is_some+in_ok-push w ↦
          numbered-pushed (is_counted Children) (field_in c.args.ty) (fields_of c.args.l.now.types c.args.ty) c.loop-index.index c.loop-index.fields
          c.if-is_some.fields c.child.result c.is_some.result c.loop-index.invariant c.child.ensures c.is_some.ensures w.if-is_some.true
          (w.fields-is ∙ w.in_ok-push.ensures.ok)
      | else-is_some w ↦
          numbered-kept (is_counted Children) (field_in c.args.ty) (fields_of c.args.l.now.types c.args.ty) c.loop-index.index c.loop-index.fields
          c.if-is_some.fields c.child.result c.is_some.result
          (omega (arith, c.fields-index-end.ensures, ap (λ (ts : List TypeEntry). length (fields_of ts c.args.ty)) c.types.ensures.value))
          c.loop-index.invariant
          c.child.ensures c.is_some.ensures w.if-is_some.false w.fields-is
    ]
