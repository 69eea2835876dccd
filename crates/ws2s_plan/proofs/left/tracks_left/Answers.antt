use Rattle.std.proofs.Common.{not, ap, sym, ◌∙◌}
use Rattle.ws2s_plan.specs.Plan.{is_gone}
use Rattle.ws2s_plan.proofs.PlanLemmas.{filter-taken, filter-left}
use Rattle.ws2s_plan.proofs.left.tracks_left.Goals as goal
use Rattle.ws2s_plan.proofs.left.tracks_left.Goals.{then-not-contains+in_ok-push, else-not-contains}

pub loop-track-preserved : goal.loop-track-preserved
loop-track-preserved c =
    elim c.if-not-contains.branch [
      | then-not-contains+in_ok-push w ↦
          filter-taken (λ t. not (is_gone c.args.eliminations.now t)) c.args.tracks.now c.loop-track.track-index _ c.loop-track-test.true c.loop-track.left
          c.if-not-contains.left (ap not (sym (c.in_ok-gone.ensures _) ∙ sym c.contains.ensures ∙ w.if-not-contains.true))
          (w.left-is ∙ w.in_ok-push.ensures.ok) c.loop-track.invariant
      | else-not-contains w ↦
          filter-left (λ t. not (is_gone c.args.eliminations.now t)) c.args.tracks.now c.loop-track.track-index (record { 0 = 0 }) c.loop-track-test.true
          c.loop-track.left c.if-not-contains.left (ap not (sym (c.in_ok-gone.ensures _) ∙ sym c.contains.ensures ∙ w.if-not-contains.false))
          w.left-is c.loop-track.invariant
    ]
