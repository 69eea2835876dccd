use Rattle.std.proofs.Common.{sym}
use Rattle.symbolic_steps.proofs.PlaceLemmas.{access-owned}
use Rattle.symbolic_steps.proofs.places.check_access.Goals as goal

pub returns-in_ok-check_field-in-Some : goal.returns-in_ok-check_field-in-Some
returns-in_ok-check_field-in-Some c = λ line next wanted text s reaches is.
    access-owned c.args.l.now.types c.args.l.now.vars line next wanted text s c.args.reached.now c.args.cell reaches c.args.field c.in-Some.field-0
    c.check_cell.new.w c.check_field.new.w (sym c.in-Some.ensures) (c.in_ok-check_cell.ensures line next wanted text s reaches is)
    c.in_ok-check_field-in-Some.ensures
