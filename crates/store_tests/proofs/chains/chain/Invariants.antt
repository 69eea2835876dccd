use Rattle.std.proofs.Common.{◌≡◌, ◌+◌, length}
use Rattle.store_tests.specs.Chains.{IsChain}
use Rattle.store_tests.proofs.chains.chain.Given as goal

abbrev pub invariant-loop-last : goal.invariant-loop-last
invariant-loop-last l = record { links : IsChain l.preds; long : length l.preds ≡ l.last + 1 }
