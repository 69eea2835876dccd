use Rattle.symbolic_steps.proofs.ShownLemmas.{guard-shown}
use Rattle.pred_transform.proofs.ActLemmas.{assertion-checked}
use Rattle.pred_transform.proofs.acts.assert.Goals as goal

pub returns : goal.returns
returns c = λ line next wanted s is.
    assertion-checked c.args.l.now.types c.args.l.now.vars next wanted line s c.args.w.now c.check_assertion.new.w c.args.assertion.now c.in_ok-here.here
    (guard-shown next wanted s c.args.w.now c.in_ok-here.here c.in_ok-here.ensures is) is c.in_ok-check_assertion.ensures
