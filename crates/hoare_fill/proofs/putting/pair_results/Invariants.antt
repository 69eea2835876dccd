use Rattle.std.proofs.Common.{◌≡◌, ◌++◌, map}
use Rattle.pale_calls.specs.declared.actual.Actual.TheVariants as actual
use Rattle.hoare_fill.specs.Putting.{beside}
use Rattle.hoare_fill.proofs.putting.pair_results.Given as goal

-- those so far and those that are left
abbrev pub invariant-loop-var : goal.invariant-loop-var
invariant-loop-var l = l.puts ++ beside l.var-iterator.a.rest.now (map (λ v. actual.Var v) l.var-iterator.b.rest.now) ≡ l.initial.puts ++ beside l.vars
    (map (λ v. actual.Var v) l.results)
