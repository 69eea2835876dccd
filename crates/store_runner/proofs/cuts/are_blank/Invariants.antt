use Rattle.std.proofs.Common.{IsSomeAnd, All, take}
use Rattle.store_core.specs.Stores.{var_value}
use Rattle.store_exec.specs.Failing.{IsBlank}
use Rattle.store_runner.proofs.cuts.are_blank.Given as goal

abbrev pub invariant-loop-var : goal.invariant-loop-var
invariant-loop-var l = All (λ v. IsSomeAnd (var_value l.store v) IsBlank) (take l.var-index l.vars)
