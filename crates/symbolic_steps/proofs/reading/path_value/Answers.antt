use Rattle.std.proofs.Common.{ap, ◌∙◌}
use Rattle.site_list.specs.States.{value_of}
use Rattle.symbolic_steps.proofs.ReadingLemmas.{along-path}
use Rattle.symbolic_steps.proofs.reading.path_value.Goals as goal

pub returns : goal.returns
returns c = λ line next wanted text s reaches is.
    along-path c.args.l.now.types c.args.l.now.vars line next wanted text s c.args.w.now c.read_along.new.w c.args.path.now.var
    c.as_slice-2.result.now c.args.path.now.fields c.value_of-value.result c.in_ok-found.found is
    (c.value_of-value.ensures ∙ ap (λ us. value_of us c.args.path.now.var) c.as_slice.ensures) c.as_slice-2.ensures
    (c.in_ok-found.ensures line next wanted text s reaches is)
