use Rattle.std.proofs.Common.{◌∙◌}
use Rattle.pred_transform.proofs.codes.make_first.Goals as goal

pub returns : goal.returns
returns c = λ next wanted text s reaches is. (c.in_ok-_made.ensures next wanted text s (c.in_ok-taken.ensures ∙ reaches) is).1
