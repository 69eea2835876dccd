use Rattle.site_list.specs.Acts.{evaluated}
use Rattle.symbolic_steps.proofs.ChangeLemmas.{var-assigned}
use Rattle.symbolic_steps.proofs.changes.assign_var.Goals as goal

pub returns : goal.returns
returns c = λ line next wanted s is.
    let types = c.args.l.now.types in
    let vars = c.args.l.now.vars in
    let got = evaluated types vars line c.args.value.now s in
    let found = c.in_ok-found.ensures line next wanted s is in
    var-assigned types vars next wanted line s got c.evaluate.new.w c.set_value.new.w c.args.v c.in_ok-found.found found.0 found.1 c.set_value.ensures
