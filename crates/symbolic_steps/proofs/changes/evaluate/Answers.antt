use Rattle.store_logic.specs.declared.act.Rhs.TheVariants as rhs
use Rattle.site_list.specs.States.{guard}
use Rattle.site_list.specs.Reading.{Told}
use Rattle.site_list.specs.Conditions.{condition}
use Rattle.symbolic_steps.proofs.ShownLemmas.{guard-shown}
use Rattle.symbolic_steps.proofs.ChangeLemmas.{evaluated-by}
use Rattle.symbolic_steps.proofs.changes.evaluate.Goals as goal

pub returns-in_ok-operand_value-in-Cell : goal.returns-in_ok-operand_value-in-Cell
returns-in_ok-operand_value-in-Cell c = λ line next wanted s is.
    evaluated-by c.args.l.now.types c.args.l.now.vars next wanted line c.args.value.now (rhs.Cell c.in-Cell.operand) s c.operand_value.new.w
    c.in_ok-operand_value-in-Cell.field-0 c.in-Cell.is
    (c.in_ok-operand_value-in-Cell.ensures line next wanted (guard s) s
    (guard-shown next wanted s c.args.w.now c.in_ok-here-in-Cell.here c.in_ok-here-in-Cell.ensures is) is)

pub returns-in_ok-made_truth-in-Truth : goal.returns-in_ok-made_truth-in-Truth
returns-in_ok-made_truth-in-Truth c = λ line next wanted s is.
    let types = c.args.l.now.types in
    let vars = c.args.l.now.vars in
    let told : Told = condition types vars line c.in-Truth.cond (guard s) s in
    let tells = c.in_ok-holds-in-Truth.ensures line next wanted (guard s) s
    (guard-shown next wanted s c.args.w.now c.in_ok-here-in-Truth.here c.in_ok-here-in-Truth.ensures is) is in
    evaluated-by types vars next wanted line c.args.value.now (rhs.Truth c.in-Truth.cond) s c.made_truth.new.w c.in_ok-made_truth-in-Truth.field-0
    c.in-Truth.is (c.in_ok-made_truth-in-Truth.ensures next wanted (told.0) (told.1) tells.0 tells.1)
