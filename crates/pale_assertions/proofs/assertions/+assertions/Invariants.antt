use Rattle.std.proofs.Common.{◌≡◌, ◌++◌, map, drop}
use Rattle.pale_tables.specs.Faults.{first_of}
use Rattle.pale_vocabulary.specs.Assertions.{assertion_fault, typed_assertion}
use Rattle.pale_assertions.proofs.assertions.+assertions.Given as goal

-- the scope is as it was, what came before has no fault, and the assertions that are left come behind those that were read
abbrev pub invariant-read_each-loop-assertion : goal.invariant-read_each-loop-assertion
invariant-read_each-loop-assertion l = record {
  scope : l.scope ≡ l.initial.scope;
  faults : first_of (assertion_fault l.vocabulary l.initial.scope) l.assertions
      ≡ first_of (assertion_fault l.vocabulary l.initial.scope) (drop l.assertion-index l.assertions);
  found : l.found ++ map (typed_assertion l.vocabulary l.initial.scope) (drop l.assertion-index l.assertions)
      ≡ map (typed_assertion l.vocabulary l.initial.scope) l.assertions;
}
