use Rattle.std.proofs.Common.{◌≡◌, [], ◌∷◌, ◌++◌, ◌∙◌, sym, subst, Result}
use Rattle.store_core.specs.Stores.{StoreMap}
use Rattle.store_exec.specs.declared.cause.Cause.{Cause}
use Rattle.store_runner.specs.Conditions.{Leads}
use Rattle.store_runner.proofs.PlaceLemmas.{assigned-by_field, class-by_field}
use Rattle.store_runner.proofs.acts.assign.Goals as goal

pub assign_field-requires-clause-class : goal.assign_field-requires-clause-class
assign_field-requires-clause-class c =
    let parts : c.args.place.now.fields ≡ c.in-Some.before.now ++ c.in-Some.last.now ∷ [] = sym c.as_slice.ensures ∙ c.in-Some.ensures.cases.0 in
    class-by_field c.args.types.now c.args.store.now c.args.place.now.var c.args.place.now.fields c.in-Some.before.now c.in-Some.last.now c.args.rhs.now parts
    c.requires.class

pub returns-in-Some-clause-leads : goal.returns-in-Some-clause-leads
returns-in-Some-clause-leads c =
    let parts : c.args.place.now.fields ≡ c.in-Some.before.now ++ c.in-Some.last.now ∷ [] = sym c.as_slice.ensures ∙ c.in-Some.ensures.cases.0 in
    subst (λ (defined : Result StoreMap Cause). Leads c.assign_field.new.store defined c.assign_field.result)
    (sym (assigned-by_field c.args.types.now c.args.store.now c.args.place.now.var c.args.place.now.fields c.in-Some.before.now c.in-Some.last.now
    c.args.rhs.now parts))
    c.assign_field.ensures.leads
