use Rattle.std.proofs.Common.{◌≡◌, Some, [], ◌∷◌, drop, map}
use Rattle.store_logic.specs.Postfix.{form_of, run_on}
use Rattle.hoare_fill.specs.Putting.{with_puts}
use Rattle.hoare_fill.specs.Forms.{filled_form}
use Rattle.hoare_fill.proofs.filling.fill.Given as goal

-- the forms that are left make the whole of what is made so far
abbrev pub invariant-loop-form : goal.invariant-loop-form
invariant-loop-form l = run_on (map (λ form. filled_form l.puts (form_of form.now)) (drop l.form-index l.form-items)) l.made
    ≡ Some (with_puts l.puts l.assertion ∷ [])
