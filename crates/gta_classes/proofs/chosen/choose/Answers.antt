-- One state after the other.
use Rattle.std.proofs.Common.{Bool, false, List, sym, ◌∙◌, ap}
use Rattle.std.specs.Prelude.{slice_index_or, slice_index}
use Rattle.gta_classes.proofs.ChosenLemmas.{ChosenBelow-same, ChosenBelow-skip, ChosenBelow-seen, ChosenBelow-push}
use Rattle.gta_classes.proofs.chosen.choose.Goals as goal
use Rattle.gta_classes.proofs.chosen.choose.Goals.{then-reached-state+then-not-is_marked+in_ok-push, else-reached-state}
use Rattle.gta_classes.proofs.chosen.choose.Goals.{else-reached-state-via-then-reached-state+else-not-is_marked, else-reached-state-via-else-reached-state}

pub loop-state-preserved : goal.loop-state-preserved
loop-state-preserved c =
    let classes = c.args.classes.now in
    let reached = c.args.reached.now in
    let state = c.loop-state.state in
    let inv = c.loop-state.invariant in
    let seen = c.loop-state.seen.items in
    let chosen = c.loop-state.chosen.items in
    let class = slice_index classes state in
    elim c.if-reached-state.branch [
      | then-reached-state+then-not-is_marked+in_ok-push w ↦
          ChosenBelow-same classes reached _ c.if-reached-state.seen.items _ c.if-reached-state.chosen.items _
          (sym (ap (λ v. v.items) w.seen-is ∙ w.mark.ensures)) (sym (ap (λ v. v.items) w.chosen-is ∙ w.in_ok-push.ensures.items))
          (ChosenBelow-push classes reached seen chosen state inv w.if-reached-state.true)
      | else-reached-state w ↦ elim w.else-reached-state.branch [
        | else-reached-state-via-then-reached-state+else-not-is_marked w' ↦
            ChosenBelow-same classes reached _ c.if-reached-state.seen.items _ c.if-reached-state.chosen.items _
            (sym (ap (λ v. v.items) w.seen-is)) (sym (ap (λ v. v.items) w.chosen-is))
            (ChosenBelow-seen classes reached seen chosen state inv
            (ap (λ (xs : List Bool). slice_index_or xs class false) (sym w'.deref.ensures.value) ∙ sym w'.is_marked.ensures ∙ w'.if-not-is_marked.false))
        | else-reached-state-via-else-reached-state w' ↦
            ChosenBelow-same classes reached _ c.if-reached-state.seen.items _ c.if-reached-state.chosen.items _
            (sym (ap (λ v. v.items) w.seen-is)) (sym (ap (λ v. v.items) w.chosen-is))
            (ChosenBelow-skip classes reached seen chosen state inv w'.if-reached-state.false)
      ]
    ]
