use Rattle.std.proofs.Common.{◌+◌, List, sym, ◌∙◌, subst}
use Rattle.ws2s_core.specs.declared.track.Track.{Track}
use Rattle.store_core.specs.declared.ids.FieldId.{FieldId}
use Rattle.tree_store.specs.Rows.{AreBools}
use Rattle.tree_store.proofs.RowsLemmas.{AreBools-yes, AreBools-no}
use Rattle.tree_store.proofs.rows.bools_of.Goals as goal
use Rattle.tree_store.proofs.rows.bools_of.Goals.{in-Some+in_ok-push, in_default}

pub loop-index-preserved : goal.loop-index-preserved
loop-index-preserved c =
    let types = c.args.l.now.types in
    let ty = c.args.ty in
    let n = c.loop-index.index in
    elim c.match-bool_track.branch [
      | in-Some+in_ok-push w ↦
          subst (λ (bs : List (FieldId × Track)). AreBools types ty (n + 1) bs) (sym (w.bools-is ∙ w.in_ok-push.ensures.ok))
          (AreBools-yes types ty n c.loop-index.bools w.in-Some.track c.loop-index.invariant (sym c.bool_track.ensures ∙ w.in-Some.is))
      | in_default w ↦
          subst (λ (bs : List (FieldId × Track)). AreBools types ty (n + 1) bs) (sym w.bools-is)
          (AreBools-no types ty n c.loop-index.bools c.loop-index.invariant (sym c.bool_track.ensures ∙ w.in_default.is))
    ]
