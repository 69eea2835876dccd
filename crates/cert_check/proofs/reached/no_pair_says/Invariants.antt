use Rattle.std.proofs.Common.{take}
use Rattle.cert_check.specs.Reached.{NoPairSays}
use Rattle.cert_check.proofs.reached.no_pair_says.Given as goal

abbrev pub invariant-loop-pair : goal.invariant-loop-pair
invariant-loop-pair l = NoPairSays l.table l.is_accepting (take l.pair-index l.pairs)
