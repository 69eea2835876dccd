use Rattle.std.proofs.Common.{◌≡◌, Some, [], ◌∷◌, drop, map, reverse}
use Rattle.store_core.specs.Postfix.{form_of, run_on}
use Rattle.store_core.proofs.kind.Route.copy.Given as goal

-- the forms that are left make the route of the routes so far
abbrev pub invariant-loop-form : goal.invariant-loop-form
invariant-loop-form l = run_on (map (λ form. form_of form.now) (drop l.form-index l.form-items)) (reverse l.routes.items) ≡ Some (l.self ∷ [])
