use Rattle.std.proofs.Common.{◌≡◌, ◌∙◌, Bool, Option, IfOk, if◌then◌else◌, ap, sym, subst}
use Rattle.std.specs.Option.{option_map_or}
use Rattle.store_core.specs.declared.ids.VarId.{VarId}
use Rattle.store_core.specs.declared.value.Value.{Value}
use Rattle.store_logic.specs.Terms.{null}
use Rattle.store_exec.specs.Steps.{variable}
use Rattle.hoare_split.specs.Picking.{class_at, is_spent}
use Rattle.whole_handing.proofs.ReturnLemmas.{value_is}
use Rattle.whole_handing.proofs.returning.value_after.Goals as goal

pub returns-in-Some : goal.returns-in-Some
returns-in-Some c =
    let otherwise : Value = if is_spent c.args.call.now (class_at c.args.vars.now c.args.var) c.args.var then null else variable c.args.rest.now c.args.var in
    let same = sym (ap (λ (o : Option VarId). option_map_or (variable c.args.exited.now) o otherwise) c.in-Some.is)
    ∙ value_is c.args.vars.now c.args.call.now c.args.results.now c.args.rest.now c.args.exited.now c.args.var c.as_slice.result.now c.result_for.result
    c.as_slice.ensures c.result_for.ensures in
    subst (λ (x : Value). IfOk c.copied.result (λ value. value ≡ x)) same c.copied.ensures

pub returns-then-is_spent : goal.returns-then-is_spent
returns-then-is_spent c =
    let otherwise : Bool → Value = λ b. if b then null else variable c.args.rest.now c.args.var in
    sym (ap otherwise (sym c.is_spent.ensures ∙ c.if-is_spent.true))
    ∙ sym (ap (λ (o : Option VarId). option_map_or (variable c.args.exited.now) o
    (otherwise (is_spent c.args.call.now (class_at c.args.vars.now c.args.var) c.args.var))) c.in-None.is)
    ∙ value_is c.args.vars.now c.args.call.now c.args.results.now c.args.rest.now c.args.exited.now c.args.var c.as_slice.result.now c.result_for.result
    c.as_slice.ensures c.result_for.ensures

pub returns-else-is_spent : goal.returns-else-is_spent
returns-else-is_spent c =
    let otherwise : Bool → Value = λ b. if b then null else variable c.args.rest.now c.args.var in
    let same = sym (ap otherwise (sym c.is_spent.ensures ∙ c.if-is_spent.false))
    ∙ sym (ap (λ (o : Option VarId). option_map_or (variable c.args.exited.now) o
    (otherwise (is_spent c.args.call.now (class_at c.args.vars.now c.args.var) c.args.var))) c.in-None.is)
    ∙ value_is c.args.vars.now c.args.call.now c.args.results.now c.args.rest.now c.args.exited.now c.args.var c.as_slice.result.now c.result_for.result
    c.as_slice.ensures c.result_for.ensures in
    subst (λ (x : Value). IfOk c.copied-else-is_spent.result (λ value. value ≡ x)) same c.copied-else-is_spent.ensures
