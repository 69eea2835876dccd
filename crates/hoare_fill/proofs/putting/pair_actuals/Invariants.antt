use Rattle.std.proofs.Common.{◌≡◌, ◌++◌}
use Rattle.hoare_fill.specs.Putting.{beside}
use Rattle.hoare_fill.proofs.putting.pair_actuals.Given as goal

-- those so far and those that are left
abbrev pub invariant-loop-var : goal.invariant-loop-var
invariant-loop-var l = l.puts ++ beside l.var-iterator.a.rest.now (l.var-iterator.b.rest.now) ≡ l.initial.puts ++ beside l.vars (l.actuals)
