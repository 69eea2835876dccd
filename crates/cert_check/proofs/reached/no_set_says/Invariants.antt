use Rattle.std.proofs.Common.{take}
use Rattle.cert_check.specs.Reached.{NoSetSays}
use Rattle.cert_check.proofs.reached.no_set_says.Given as goal

abbrev pub invariant-loop-set : goal.invariant-loop-set
invariant-loop-set l = NoSetSays l.table l.is_accepting (take l.set-index l.sets)
