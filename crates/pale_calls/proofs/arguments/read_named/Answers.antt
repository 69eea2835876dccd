use Rattle.std.proofs.Common.{Bool, ap, ◌∙◌, subst}
use Rattle.pale_text.specs.declared.refusal.RefusalKind.TheVariants as kind
use Rattle.pale_tables.specs.Faults.{need, IsStop}
use Rattle.pale_tables.proofs.FaultLemmas.{stop-after, stop_returned}
use Rattle.pale_calls.specs.Calls.{beside_fault, may_be_handed, named_argument_fault}
use Rattle.pale_calls.proofs.arguments.read_named.Goals as goal

pub returns-in_err-need-clause-stop : goal.returns-in_err-need-clause-stop
unfolding named_argument_fault
returns-in_err-need-clause-stop c =
    let e = c.in_err-need.field-0.0 in
    let x = c.args.name.now in
    let is = c.may_be_handed-may.ensures ∙ ap (may_be_handed c.args.formal.class) c.is_new.ensures in
    stop_returned _ c.from_residual-in_err-need.result e c.from_residual-in_err-need.ensures.1
    (stop-after (beside_fault c.args.vars.now c.args.formal x) _ e c.in_ok-id.ensures.met
    (subst (λ (b : Bool). IsStop (need b kind.Duplicate x.place) e) is c.in_err-need.ensures.stop))
