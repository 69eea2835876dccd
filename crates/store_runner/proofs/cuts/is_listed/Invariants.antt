use Rattle.std.proofs.Common.{Contains, take}
use Rattle.store_runner.proofs.cuts.is_listed.Given as goal

abbrev pub invariant-loop-listed : goal.invariant-loop-listed
invariant-loop-listed l = Contains (take l.listed-index l.vars) l.var → ⊥
