use Rattle.std.proofs.Common.{◌≡◌, [], ◌++◌, map, drop}
use Rattle.pale_calls.specs.Calls.{arguments_fault, actual_of}
use Rattle.pale_calls.proofs.arguments.read_arguments.Given as goal

-- what came before has no fault, and the arguments that are left come behind those that were read
abbrev pub invariant-loop-place : goal.invariant-loop-place
invariant-loop-place l = record {
  faults : arguments_fault l.vars [] l.formals l.arguments
      ≡ arguments_fault l.vars l.before (drop l.place l.formals) (drop l.place l.arguments);
  actuals : l.actuals ++ map (actual_of l.vars) (drop l.place l.arguments) ≡ map (actual_of l.vars) l.arguments;
}
