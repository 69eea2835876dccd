use Rattle.std.proofs.Common.{◌≡◌, ◌++◌, drop, map, take, length}
use Rattle.pale_vocabulary.specs.Quantifiers.{bound_entry, names_fault}
use Rattle.pale_assertions.proofs.quantifiers.bind_names.Given as goal

-- what came before has no fault, and the names that are left come behind those that were bound
abbrev pub invariant-loop-name : goal.invariant-loop-name
invariant-loop-name l = record {
  faults : names_fault l.sort l.initial.scope l.names ≡ names_fault l.sort l.scope (drop l.name-index l.names);
  bound : l.scope ++ map (bound_entry l.sort) (drop l.name-index l.names) ≡ l.initial.scope ++ map (bound_entry l.sort) l.names;
  kept : take (length l.initial.scope) l.scope ≡ l.initial.scope;
}
