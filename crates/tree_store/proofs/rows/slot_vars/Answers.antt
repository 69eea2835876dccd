use Rattle.std.proofs.Common.{◌∙◌, List, ap, length, arith}
use Rattle.store_core.specs.Tables.{VarEntry}
use Rattle.tree_encode.specs.Counting.{is_data_var}
use Rattle.tree_store.specs.Rows.{var_number}
use Rattle.tree_store.proofs.RowsLemmas.{numbered-pushed, numbered-kept}
use Rattle.tree_store.proofs.rows.slot_vars.Goals as goal
use Rattle.tree_store.proofs.rows.slot_vars.Goals.{then-is_some+in_ok-push, else-is_some}

pub loop-index-preserved : goal.loop-index-preserved
loop-index-preserved c =
    elim c.if-is_some.branch [
      | then-is_some+in_ok-push w ↦
          numbered-pushed is_data_var var_number c.args.l.now.vars c.loop-index.index c.loop-index.slots
          c.if-is_some.slots c.slot.result c.is_some.result c.loop-index.invariant c.slot.ensures c.is_some.ensures w.if-is_some.true
          (w.slots-is ∙ w.in_ok-push.ensures.ok)
      | else-is_some w ↦
          numbered-kept is_data_var var_number c.args.l.now.vars c.loop-index.index c.loop-index.slots
          c.if-is_some.slots c.slot.result c.is_some.result
          (omega (arith, c.vars-index-end.ensures.value, ap (λ (vs : List VarEntry). length vs) c.vars.ensures.value)) c.loop-index.invariant
          c.slot.ensures c.is_some.ensures w.if-is_some.false w.slots-is
    ]
