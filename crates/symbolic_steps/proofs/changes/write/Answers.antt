use Rattle.site_list.specs.States.{guard}
use Rattle.symbolic_steps.proofs.ShownLemmas.{guard-shown}
use Rattle.symbolic_steps.proofs.ChangeLemmas.{field-written}
use Rattle.symbolic_steps.proofs.changes.write.Goals as goal

pub returns : goal.returns
returns c = λ line next wanted s is.
    field-written c.args.l.now.types c.args.l.now.vars next wanted line s c.args.w.now c.check_access.new.w c.happens.new.w c.args.cell c.args.value
    c.args.field is
    (c.in_ok-check_access.ensures line next wanted (guard s) s (guard-shown next wanted s c.args.w.now c.in_ok-here.here c.in_ok-here.ensures is) is)
    c.in_ok-happens.ensures
