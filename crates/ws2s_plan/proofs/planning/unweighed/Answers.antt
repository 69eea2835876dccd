use Rattle.std.proofs.Common.{Contains, Vec, All, ap, subst, sym, ◌∙◌}
use Rattle.std.specs.declared.alloc.Global.{Global}
use Rattle.ws2s_core.specs.declared.track.Track.{Track}
use Rattle.ws2s_plan.proofs.PlanLemmas.{pushed}
use Rattle.ws2s_plan.proofs.planning.unweighed.Goals as goal
use Rattle.ws2s_plan.proofs.planning.unweighed.Goals.{then-is_unweighed+in_ok-push, else-is_unweighed}

pub loop-track-preserved : goal.loop-track-preserved
loop-track-preserved c =
    elim c.if-is_unweighed.branch [
      | then-is_unweighed+in_ok-push w ↦
          pushed (λ (t : Track). Contains c.args.weigh.now t → ⊥) c.loop-track.found.items c.if-is_unweighed.found.items _
          (ap (λ (v : Vec Track Global). v.items) w.found-is ∙ w.in_ok-push.ensures.items) c.loop-track.invariant
          (c.is_unweighed.ensures w.if-is_unweighed.true)
      | else-is_unweighed w ↦
          subst (λ (v : Vec Track Global). All (λ (t : Track). Contains c.args.weigh.now t → ⊥) v.items) (sym w.found-is) c.loop-track.invariant
    ]
