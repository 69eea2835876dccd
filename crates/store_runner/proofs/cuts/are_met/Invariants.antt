use Rattle.std.proofs.Common.{All, take}
use Rattle.store_exec.specs.Cuts.{IsMet}
use Rattle.store_runner.proofs.cuts.are_met.Given as goal

abbrev pub invariant-loop-claim : goal.invariant-loop-claim
invariant-loop-claim l = All (IsMet l.types l.vars l.store) (take l.claim-index l.claims)
