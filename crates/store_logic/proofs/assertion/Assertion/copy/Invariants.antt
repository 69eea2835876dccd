use Rattle.std.proofs.Common.{◌≡◌, Some, [], ◌∷◌, drop, map}
use Rattle.store_logic.specs.Postfix.{form_of, run_on}
use Rattle.store_logic.proofs.assertion.Assertion.copy.Given as goal

-- the forms that are left make the assertion of the copies so far
abbrev pub invariant-loop-form : goal.invariant-loop-form
invariant-loop-form l = run_on (map (λ form. form_of form.now) (drop l.form-index l.form-items)) l.copies ≡ Some (l.self ∷ [])
