use Rattle.std.proofs.Common.{◌≡◌, ◌==◌}
use Rattle.std.specs.List.{find, zip}
use Rattle.whole_handing.proofs.returning.result_for.Given as goal

-- what was gone through is of other variables
abbrev pub invariant-loop-own : goal.invariant-loop-own
invariant-loop-own l = find (λ pair. pair.0.0 == l.var.0) (zip l.own-iterator.a.rest.now l.own-iterator.b.rest.now)
    ≡ find (λ pair. pair.0.0 == l.var.0) (zip l.awaited l.results)
