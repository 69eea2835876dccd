use Rattle.std.proofs.Common.{◌≡◌, ◌++◌, map, drop}
use Rattle.pale_tables.specs.Faults.{first_of}
use Rattle.pale_acts.specs.Conditions.{condition_fault, typed_condition}
use Rattle.pale_acts.proofs.conditions.+conditions.Given as goal

-- what came before has no fault, and the conditions that are left come behind those that were found
abbrev pub invariant-read_each-loop-condition : goal.invariant-read_each-loop-condition
invariant-read_each-loop-condition l = record {
  faults : first_of (condition_fault l.types l.scope) l.conditions
      ≡ first_of (condition_fault l.types l.scope) (drop l.condition-index l.conditions);
  found : l.found ++ map (typed_condition l.types l.scope) (drop l.condition-index l.conditions)
      ≡ map (typed_condition l.types l.scope) l.conditions;
}
