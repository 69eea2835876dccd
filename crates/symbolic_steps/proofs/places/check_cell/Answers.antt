use Rattle.symbolic_steps.proofs.PlaceLemmas.{cell-checked}
use Rattle.symbolic_steps.proofs.places.check_cell.Goals as goal

pub returns : goal.returns
returns c = λ line next wanted text s reaches is.
    cell-checked c.args.l.now.types c.args.l.now.vars line next wanted text s c.args.reached.now c.args.cell reaches c.args.w.now c.check_null.new.w
    c.check_dead.new.w is c.in_ok-check_null.ensures c.in_ok-check_dead.ensures
