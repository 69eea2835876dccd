use Rattle.std.proofs.Common.{◌≡◌, ◌++◌, drop}
use Rattle.pale_vocabulary.specs.Arguments.{arguments_fault, arguments_of}
use Rattle.pale_assertions.proofs.arguments.read_arguments.Given as goal

-- what came before has no fault, and the arguments that are left come behind those that were read
abbrev pub invariant-loop-place : goal.invariant-loop-place
invariant-loop-place l = record {
  faults : arguments_fault l.types l.scope l.params l.paths ≡ arguments_fault l.types l.scope (drop l.place l.params) (drop l.place l.paths);
  args : l.args ++ arguments_of l.types l.scope (drop l.place l.params) (drop l.place l.paths) ≡ arguments_of l.types l.scope l.params l.paths;
}
