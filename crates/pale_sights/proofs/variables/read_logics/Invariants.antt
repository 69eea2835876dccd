use Rattle.std.proofs.Common.{◌≡◌, ◌++◌, drop, map}
use Rattle.pale_sights.specs.Variables.{logic_name_of, logic_of, logics_fault}
use Rattle.pale_sights.proofs.variables.read_logics.Given as goal

-- what came before has no fault, and the variables that are left come behind those that were read
abbrev pub invariant-loop-parameter : goal.invariant-loop-parameter
invariant-loop-parameter l = record {
  faults : logics_fault l.types l.initial.before l.parameters ≡ logics_fault l.types l.before (drop l.parameter-index l.parameters);
  found : l.found ++ map (logic_of l.types) (drop l.parameter-index l.parameters) ≡ map (logic_of l.types) l.parameters;
  names : l.before ++ map (λ d. (logic_name_of d).bytes) (drop l.parameter-index l.parameters)
      ≡ l.initial.before ++ map (λ d. (logic_name_of d).bytes) l.parameters;
}
