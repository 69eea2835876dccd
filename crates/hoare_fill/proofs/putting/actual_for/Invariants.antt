use Rattle.std.proofs.Common.{◌≡◌, ◌==◌, drop}
use Rattle.std.specs.List.{find}
use Rattle.hoare_fill.proofs.putting.actual_for.Given as goal

-- what was gone through is of other variables
abbrev pub invariant-loop-put : goal.invariant-loop-put
invariant-loop-put l = find (λ put. put.var.0 == l.var.0) (drop l.put-index l.puts) ≡ find (λ put. put.var.0 == l.var.0) l.puts
