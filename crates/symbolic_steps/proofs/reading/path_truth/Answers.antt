use Rattle.std.proofs.Common.{length, ap, sym, ◌∙◌}
use Rattle.site_list.specs.States.{value_of}
use Rattle.symbolic_steps.proofs.ReadingLemmas.{path-told, variable-told}
use Rattle.symbolic_steps.proofs.reading.path_truth.Goals as goal

pub returns-in_default : goal.returns-in_default
returns-in_default c = λ line next wanted text s reaches is.
    variable-told c.args.l.now.types c.args.l.now.vars line next wanted text s c.args.w.now c.args.path.now.var c.args.path.now.fields
    c.value_of-value.result c.in_ok-formula.formula is
    (c.value_of-value.ensures ∙ ap (λ us. value_of us c.args.path.now.var) c.as_slice.ensures)
    (ap (λ fs. length fs) (sym c.as_slice-2.ensures) ∙ c.in_default.ensures.cases) c.in_ok-formula.ensures

pub returns : goal.returns
returns c = λ line next wanted text s reaches is.
    path-told c.args.l.now.types c.args.l.now.vars line next wanted text s c.args.w.now c.read_along.new.w c.field_truth.new.w c.args.path.now.var
    c.args.path.now.fields c.in-Some.before.now c.in-Some.last.now c.value_of-value.result c.in_ok-cell.cell c.in_ok-formula-2.formula is
    (c.value_of-value.ensures ∙ ap (λ us. value_of us c.args.path.now.var) c.as_slice.ensures) (sym c.as_slice-2.ensures ∙ c.in-Some.ensures.cases.0)
    (c.in_ok-cell.ensures line next wanted text s reaches is) (λ t at. c.in_ok-formula-2.ensures line next wanted text t reaches at)
