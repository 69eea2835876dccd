use Rattle.ws2s_read.proofs.ResolvingLemmas.{stop_returned}
use Rattle.ws2s_read.proofs.names.Names.declare.Goals as goal

pub returns-in_err-check_new-clause-stop : goal.returns-in_err-check_new-clause-stop
returns-in_err-check_new-clause-stop c =
    stop_returned _ c.from_residual.result c.in_err-check_new.field-0.0 c.from_residual.ensures.1
    (c.in_err-check_new.ensures.stop c.args.meaning)
