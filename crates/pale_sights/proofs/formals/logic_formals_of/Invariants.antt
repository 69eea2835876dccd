use Rattle.std.proofs.Common.{◌≡◌, ◌++◌, drop, map}
use Rattle.pale_sights.specs.Formals.{logic_formal_of}
use Rattle.pale_sights.proofs.formals.logic_formals_of.Given as goal

abbrev pub invariant-loop-parameter : goal.invariant-loop-parameter
invariant-loop-parameter l =
    l.formals ++ map (logic_formal_of l.types) (drop l.parameter-index l.parameters) ≡ map (logic_formal_of l.types) l.parameters
