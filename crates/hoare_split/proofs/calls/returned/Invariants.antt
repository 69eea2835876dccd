use Rattle.std.proofs.Common.{◌≡◌, ◌++◌, drop}
use Rattle.hoare_split.specs.Calls.{returned_by}
use Rattle.hoare_split.proofs.calls.returned.Given as goal

-- those so far and those that are left
abbrev pub invariant-loop-var : goal.invariant-loop-var
invariant-loop-var l = l.found ++ returned_by l.vars (drop l.var-index l.results) ≡ returned_by l.vars l.results
