use Rattle.std.proofs.Common.{◌<◌, ℕ}
use Rattle.store_exec.specs.Telling.{IsAstray}
use Rattle.store_runner.proofs.cuts.any_astray.Given as goal

abbrev pub invariant-loop-index : goal.invariant-loop-index
invariant-loop-index l = (n : ℕ) → n < l.index → IsAstray l.vars l.store l.cells l.inside (record { 0 = n }) → ⊥
