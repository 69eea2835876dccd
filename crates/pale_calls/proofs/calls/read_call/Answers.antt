use Rattle.pale_tables.proofs.FaultLemmas.{stop_returned}
use Rattle.pale_calls.specs.Calls.{call_fault}
use Rattle.pale_calls.proofs.calls.read_call.Goals as goal

pub returns-in_err-callee-clause-stop : goal.returns-in_err-callee-clause-stop
returns-in_err-callee-clause-stop c =
    let fault = call_fault c.args.procedures.now c.args.vars.now c.args.call.now in
    stop_returned fault c.from_residual-in_err-callee.result c.in_err-callee.field-0.0 c.from_residual-in_err-callee.ensures.1
    (c.in_err-callee.ensures.memory fault)
