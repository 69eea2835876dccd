use Rattle.std.proofs.Common.{◌≡◌, ◌++◌, drop}
use Rattle.hoare_split.specs.Calls.{handed_by}
use Rattle.hoare_split.proofs.calls.handed.Given as goal

-- those so far and those that are left
abbrev pub invariant-loop-arg : goal.invariant-loop-arg
invariant-loop-arg l = l.found ++ handed_by l.vars (drop l.arg-index l.args) ≡ handed_by l.vars l.args
