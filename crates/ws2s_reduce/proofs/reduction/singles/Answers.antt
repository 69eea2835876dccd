use Rattle.std.proofs.Common.{◌+◌, [], ◌∷◌, ◌++◌, map, take, ap, ap₂, ◌∙◌}
use Rattle.ws2s_syntax.specs.Checked.{class_of_free}
use Rattle.ws2s_reduce.specs.Reducing.{singles_from}
use Rattle.ws2s_reduce.proofs.AnswerLemmas.{singles_from-next}
use Rattle.ws2s_reduce.proofs.reduction.singles.Goals as goal

pub loop-variable-preserved : goal.loop-variable-preserved
loop-variable-preserved c = record {
  place = c.in_ok-track.ensures ∙ ap (λ t. t + 1) c.loop-variable.invariant.place;
  made =
      c.in_ok-push_single.ensures
      ∙ ap₂ (λ all t. all ++ singles_from t (class_of_free c.variable-item.result ∷ [])) c.loop-variable.invariant.made c.loop-variable.invariant.place
      ∙ ap (λ v. singles_from 0 (map class_of_free (take c.loop-variable.variable-index c.args.free.now))
      ++ singles_from c.loop-variable.variable-index (class_of_free v ∷ []))
      c.variable-item.is
      ∙ singles_from-next c.args.free.now c.loop-variable.variable-index c.variable-item.result c.loop-variable-test.true;
}
