use Rattle.std.proofs.Common.{◌≡◌, ◌++◌, drop, map}
use Rattle.pale_sights.specs.Formals.{formal_of}
use Rattle.pale_sights.proofs.formals.formals_of.Given as goal

abbrev pub invariant-loop-parameter : goal.invariant-loop-parameter
invariant-loop-parameter l = l.formals ++ map (formal_of l.types) (drop l.parameter-index l.parameters) ≡ map (formal_of l.types) l.parameters
