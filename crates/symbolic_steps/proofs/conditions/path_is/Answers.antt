use Rattle.site_list.specs.Reading.{path_value}
use Rattle.symbolic_steps.proofs.ConditionLemmas.{variant-told}
use Rattle.symbolic_steps.proofs.conditions.path_is.Goals as goal

pub returns : goal.returns
returns c = λ line next wanted text s reaches is.
    let types = c.args.l.now.types in
    let vars = c.args.l.now.vars in
    let got = path_value types vars line text c.args.path.now s in
    let one = c.in_ok-cell.ensures line next wanted text s reaches is in
    variant-told types vars line next wanted text s got c.path_value.new.w c.check_cell.new.w c.args.variant c.in_ok-cell.cell c.in_ok-formula.formula
    one.0 one.1 c.in_ok-formula.ensures (c.in_ok-check_cell.ensures line next wanted text (got.1) reaches one.1)
