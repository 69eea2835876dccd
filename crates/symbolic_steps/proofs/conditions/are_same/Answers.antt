use Rattle.site_list.specs.Reading.{operand_value}
use Rattle.symbolic_steps.proofs.ConditionLemmas.{same-told}
use Rattle.symbolic_steps.proofs.conditions.are_same.Goals as goal

pub returns : goal.returns
returns c = λ line next wanted text s reaches is.
    let types = c.args.l.now.types in
    let vars = c.args.l.now.vars in
    let got = operand_value types vars line text c.args.one.now s in
    let left = c.in_ok-left.ensures line next wanted text s reaches is in
    same-told types vars line next wanted text s c.args.other.now got c.operand_value-2.new.w c.in_ok-left.left c.in_ok-right.right
    c.in_ok-formula.formula left.0 (c.in_ok-right.ensures line next wanted text (got.1) reaches left.1) c.in_ok-formula.ensures
