use Rattle.std.proofs.Common.{◌≡◌}
use Rattle.store_tests.proofs.chains.with_sizes.Given as goal

abbrev pub invariant-loop-pred : goal.invariant-loop-pred
invariant-loop-pred l = l.sized ≡ l.yielded
