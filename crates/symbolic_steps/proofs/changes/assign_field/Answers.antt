use Rattle.std.proofs.Common.{ap, ◌∙◌}
use Rattle.site_list.specs.States.{guard, value_of}
use Rattle.symbolic_steps.proofs.ShownLemmas.{guard-shown}
use Rattle.symbolic_steps.proofs.ChangeLemmas.{field-assigned}
use Rattle.symbolic_steps.proofs.changes.assign_field.Goals as goal

pub returns : goal.returns
returns c = λ line next wanted s is.
    let types = c.args.l.now.types in
    let vars = c.args.l.now.vars in
    let here = guard-shown next wanted s c.args.w.now c.in_ok-here.here c.in_ok-here.ensures is in
    field-assigned types vars next wanted line c.args.v c.args.before.now c.args.field c.args.value.now s c.args.w.now c.read_along.new.w c.evaluate.new.w
    c.write.new.w c.value_of-first.result c.in_ok-cell.cell c.in_ok-found.found is
    (c.value_of-first.ensures ∙ ap (λ us. value_of us c.args.v) c.as_slice.ensures)
    (c.in_ok-cell.ensures line next wanted (guard s) s here is) (λ t. c.in_ok-found.ensures line next wanted t) (λ t. c.in_ok-write.ensures line next wanted t)
