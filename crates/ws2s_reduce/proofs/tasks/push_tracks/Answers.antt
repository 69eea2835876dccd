use Rattle.std.proofs.Common.{◌+◌, [], ◌∷◌, ◌++◌, sym, ap, ◌∙◌, append_assoc, add-one}
use Rattle.ws2s_reduce.specs.Building.{tracks_from}
use Rattle.ws2s_reduce.proofs.StepsLemmas.{tracks_from-last}
use Rattle.ws2s_reduce.proofs.tasks.push_tracks.Goals as goal

pub loop-name-preserved : goal.loop-name-preserved
loop-name-preserved c =
    c.in_ok-push.ensures.items
    ∙ ap (λ t. c.loop-name.tracks.items ++ t ∷ []) c.in_ok-track.ensures
    ∙ ap (λ all. all ++ (c.args.first + c.loop-name.name) ∷ []) c.loop-name.invariant
    ∙ append_assoc _ (tracks_from c.args.first c.loop-name.name) ((c.args.first + c.loop-name.name) ∷ [])
    ∙ ap (λ all. c.args.tracks.now.items ++ all)
    (tracks_from-last c.args.first c.loop-name.name ∙ ap (tracks_from c.args.first) (sym (add-one c.loop-name.name)))
