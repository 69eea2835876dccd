use Rattle.std.proofs.Common.{slice_get, ap, ◌∙◌, sym}
use Rattle.store_core.specs.Tables.{var_named}
use Rattle.store_text.specs.Saying.{Said, is_said, value_for, say_var}
use Rattle.store_text.proofs.SayingLemmas.{stop_of, say_var-stop}
use Rattle.store_text.proofs.read.draft.Draft.say_var.Goals as goal

pub returns-in_err-value-clause-stop : goal.returns-in_err-value-clause-stop
returns-in_err-value-clause-stop c =
    let vars = c.args.vars.now in
    let given = c.args.given.now in
    let v = c.in-Some.v in
    stop_of c.from_residual.result c.in_err-value.field-0.0 (say_var vars c.args.line c.args.self.now given) c.from_residual.ensures.1
    (λ n. say_var-stop vars c.args.line c.args.self.now given v c.in-Some-kind.kind.now c.in_err-value.field-0.0
    (ap (var_named vars) (sym c.as_slice.ensures) ∙ sym c.in-Some.ensures) (sym c.in-Some-kind.ensures)
    (ap (λ (s : Said). is_said (slice_get s.vars v.0)) (sym c.self.view_is) ∙ sym c.if-is_said.ensures)
    (ap (λ h. value_for h given.value) (sym c.var_holds-holds.ensures) ∙ c.in_err-value.ensures.stop n))
