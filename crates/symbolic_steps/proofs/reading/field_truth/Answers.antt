use Rattle.site_list.specs.Reading.{is_true_of}
use Rattle.symbolic_steps.proofs.ShownLemmas.{seen-shown}
use Rattle.std.proofs.Common.{◌∙◌}
use Rattle.symbolic_steps.proofs.reading.field_truth.Goals as goal

pub returns : goal.returns
returns c = λ line next wanted text s reaches is. (
  c.in_ok-formula.ensures
      ∙ seen-shown c.args.l.now.vars next wanted s c.args.w.now (λ seen n. is_true_of c.args.l.now.types seen c.args.field c.args.cell n) is,
  c.in_ok-check_access.ensures line next wanted text s reaches is,
)
