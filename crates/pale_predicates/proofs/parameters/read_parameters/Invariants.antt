use Rattle.std.proofs.Common.{◌≡◌, ◌++◌, [], drop, map, length}
use Rattle.pale_vocabulary.specs.Parameters.{parameters_fault, scope_of, sort_of}
use Rattle.pale_predicates.proofs.parameters.read_parameters.Given as goal

-- what came before has no fault, and the parameters that are left come behind those that were read
abbrev pub invariant-loop-parameter : goal.invariant-loop-parameter
invariant-loop-parameter l = record {
  faults : parameters_fault l.types [] l.parameters ≡ parameters_fault l.types l.scope (drop l.parameter-index l.parameters);
  scope : l.scope ++ scope_of l.types (length l.scope) (drop l.parameter-index l.parameters) ≡ scope_of l.types 0 l.parameters;
  sorts : l.sorts ++ map (sort_of l.types) (drop l.parameter-index l.parameters) ≡ map (sort_of l.types) l.parameters;
}
