use Rattle.std.proofs.Common.{◌≡◌, [], ◌++◌, map, drop}
use Rattle.std.specs.Option.{option_copied}
use Rattle.pale_calls.specs.Calls.{variable_of, results_fault}
use Rattle.pale_calls.proofs.results.read_results.Given as goal

-- what came before has no fault, and the results that are left come behind those that were found
abbrev pub invariant-loop-name : goal.invariant-loop-name
invariant-loop-name l = record {
  faults : results_fault l.vars (option_copied l.callee) [] l.names
      ≡ results_fault l.vars (option_copied l.callee) l.before (drop l.name-index l.names);
  found : l.found ++ map (variable_of l.vars) (drop l.name-index l.names) ≡ map (variable_of l.vars) l.names;
}
