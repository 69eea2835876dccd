use Rattle.std.proofs.Common.{◌≡◌, List, [], ◌∷◌, map, refl, sym, ap, ◌∙◌}
use Rattle.store_logic.specs.Postfix.{form_of, postfix_of, run_on}
use Rattle.store_logic.proofs.PostfixLemmas.{run_on-whole, applied-next}
use Rattle.hoare_fill.specs.Putting.{with_puts}
use Rattle.hoare_fill.specs.Forms.{filled_form}
use Rattle.hoare_fill.proofs.FormLemmas.{postfix-with_puts}
use Rattle.hoare_fill.proofs.filling.fill.Goals as goal

both : {A B C : Type 0} (f : B → C) (g : A → B) (xs : List A) → map (λ x. f (g x)) xs ≡ map f (map g xs)
both f g [] = refl
both f g (x ∷ xs) = ap (λ ys. f (g x) ∷ ys) (both f g xs)

pub loop-form-init : goal.loop-form-init
loop-form-init c =
    let puts = c.args.puts.now in
    ap (λ forms. run_on (map (λ form. filled_form puts (form_of form.now)) forms) c.new-made.result) c.as_slice-form-items.ensures.value
    ∙ ap (λ forms. run_on forms c.new-made.result) (both (filled_form puts) (λ form. form_of form.now) c.in_ok-forms.forms.items)
    ∙ ap (λ forms. run_on (map (filled_form puts) forms) c.new-made.result) c.in_ok-forms.ensures
    ∙ ap (λ forms. run_on forms c.new-made.result) (sym (postfix-with_puts puts c.args.assertion.now))
    ∙ ap (λ made. run_on (postfix_of (with_puts puts c.args.assertion.now)) made) c.new-made.ensures
    ∙ run_on-whole (with_puts puts c.args.assertion.now)

pub fill_form-requires : goal.fill_form-requires
fill_form-requires c = applied-next (λ form. filled_form c.args.puts.now (form_of form.now)) c.as_slice-form-items.result.now c.loop-form.form-index
    c.form-item.result
    c.form-item.is c.loop-form-test.true _ _ c.loop-form.invariant
