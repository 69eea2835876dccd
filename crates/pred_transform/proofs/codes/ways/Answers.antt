use Rattle.site_list.specs.States.{guard}
use Rattle.site_list.specs.Reading.{Told}
use Rattle.site_list.specs.Conditions.{condition}
use Rattle.symbolic_steps.proofs.ShownLemmas.{guard-shown}
use Rattle.pred_transform.proofs.codes.ways.Goals as goal

pub returns : goal.returns
returns c = λ line next wanted s is.
    let told : Told = condition c.args.l.now.types c.args.l.now.vars line c.args.cond.now (guard s) s in
    let tells = c.in_ok-holds.ensures line next wanted (guard s) s (guard-shown next wanted s c.args.w.now c.in_ok-here.here c.in_ok-here.ensures is) is in
    c.in_ok-way.ensures next wanted (told.0) (told.1) tells.0 tells.1
