use Rattle.std.proofs.Common.{map, ap, ◌∙◌}
use Rattle.store_logic.specs.PostfixConds.{form_of, postfix_of, run_on}
use Rattle.store_logic.proofs.PostfixCondsLemmas.{run_on-whole, applied-next}
use Rattle.store_logic.proofs.cond.Cond.copy.Goals as goal

pub loop-form-init : goal.loop-form-init
loop-form-init c =
    ap (λ forms. run_on (map (λ form. form_of form.now) forms) c.new-copies.result) c.as_slice-form-items.ensures.value
    ∙ ap (λ forms. run_on forms c.new-copies.result) c.in_ok-forms.ensures
    ∙ ap (λ copies. run_on (postfix_of c.args.self.now) copies) c.new-copies.ensures
    ∙ run_on-whole c.args.self.now

pub copy_form-requires : goal.copy_form-requires
copy_form-requires c = applied-next (λ form. form_of form.now) c.as_slice-form-items.result.now c.loop-form.form-index c.form-item.result
    c.form-item.is c.loop-form-test.true _ _ c.loop-form.invariant
