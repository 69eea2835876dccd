use Rattle.std.proofs.Common.{[], ◌∷◌, ◌++◌, ap, ◌∙◌}
use Rattle.ws2s_forms.specs.Forms.{track}
use Rattle.ws2s_reduce.proofs.AnswerLemmas.{free_from-next}
use Rattle.ws2s_reduce.proofs.reduction.tracks.Goals as goal

pub loop-track-preserved : goal.loop-track-preserved
loop-track-preserved c =
    c.in_ok-push.ensures.ok ∙ ap (λ all. all ++ track c.loop-track.track ∷ []) c.loop-track.invariant
    ∙ free_from-next c.loop-track.track
